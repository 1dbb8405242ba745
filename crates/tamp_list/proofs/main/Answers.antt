-- A listing fits the text's buffer.
use Rattle.std.proofs.Common.{ℕ, sym, length-take-le}
use lib.ListN.{length-replicate}
use Rattle.listing.proofs.Bounds.{text_fits}
use Rattle.tamp_list.proofs.main.Goals as goal

pub slice_bounds-text-end : goal.slice_bounds-text-end
slice_bounds-text-end c = text_fits _ _ _ (length-replicate {A = ℕ} 8192 0) c.list-m.ensures

pub slice_bounds-write_all-end : goal.slice_bounds-write_all-end
slice_bounds-write_all-end c = sym (length-take-le _ _ (text_fits _ _ _ (length-replicate {A = ℕ} 8192 0) c.list-m.ensures))

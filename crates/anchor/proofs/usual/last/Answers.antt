-- `anchor::usual::last` meets its contract. Assumes nothing.
use Rattle.std.proofs.Common.{ℕ, ap, ◌∙◌}
use Rattle.std.specs.Prelude.{Option, unwrap_or}
use Rattle.std.proofs.lemmas.Option.{unwrap_or-slice_get}
use Rattle.anchor.specs.Contract.Usual.{last_of}
use Rattle.anchor.proofs.usual.last.Goals as goal

pub returns : goal.returns
unfolding last_of
returns c = c.unwrap_or.ensures ∙ ap (λ (o : Option ℕ). unwrap_or o 0) (c.copied.ensures ∙ c.last.ensures.value) ∙ unwrap_or-slice_get c.args.k.now _ 0

-- `image::is_image` meets its contract. Assumes nothing.
use mathlib.Core.Path.{sym, ap, ◌∙◌}
use Rattle.image.specs.Contract.Check.{rest_at}
use Rattle.image.proofs.Checks.{no_image, image_stops}
use Rattle.image.proofs.is_image.Goals as goal

pub returns-in_default : goal.returns-in_default
returns-in_default c =
    let s = c.args.image.now in
    sym (no_image s (sym (ap (rest_at s) c.in_default.is) ∙ c.sections.ensures))

pub returns : goal.returns
returns c =
    let s = c.args.image.now in
    sym (image_stops s _ (sym (ap (rest_at s) c.in-Some.is) ∙ c.sections.ensures))

-- `listing::Text::put_image` meets its contract. Assumes nothing.
use native.Mathlib.Omega.{arith}
use mathlib.Core.Path.{refl}
use Rattle.listing.specs.Contract.Texts.{device_line, anchors_text, image_text}
use Rattle.listing.proofs.Texts.{part, whole, image-length}
use Rattle.octets.proofs.Turns.{left_start, left_step, last_step}
use Rattle.listing.proofs.Text.put_image.Goals as goal

pub put_anchors-requires : goal.put_anchors-requires
put_anchors-requires c = omega (arith, image-length c.args.image.now)

pub put_communities-requires : goal.put_communities-requires
put_communities-requires c =
    let i = c.args.image.now in
    omega (arith, image-length i)

pub returns-clause-written : goal.returns-clause-written
unfolding image_text
returns-clause-written c =
    let a = c.args in
    let b = a.self.now.buf.now in
    let i = a.image.now in
    let h = c.requires in
    let l₁ = left_step b a.self.now.at (image_text i) h (left_start _ _ _) (device_line i) _ refl (part c.put_device.ensures.written) in
    let l₂ = left_step b a.self.now.at (image_text i) h l₁ (anchors_text i) _ refl (part c.put_anchors.ensures.written) in
    whole a.self.now.buf.now a.self.now.at _ h (last_step b a.self.now.at (image_text i) h l₂ (part c.put_communities.ensures.written))

pub put_device-requires : goal.put_device-requires
put_device-requires c = omega (arith, image-length c.args.image.now)

-- `reply::terse_size` meets its contract. Assumes nothing.
use Prim.Native.Nat.{◌+◌}
use native.Mathlib.Omega.{arith}
use mathlib.Core.Path.{ap₂, ◌∙◌}
use Rattle.reply.specs.declared.Listed.TheVariants.{Identifiers, Communities}
use Rattle.reply.proofs.Members.{list_bound, identifiers-length, communities-length}
use Rattle.reply.proofs.terse_size.Goals as goal

pub list_size-requires : goal.list_size-requires
list_size-requires c = omega (arith, list_bound Identifiers c.args.image.now (λ i. (c.type_inv.image i).fits))

pub list_size-requires-2 : goal.list_size-requires-2
list_size-requires-2 c = omega (arith, list_bound Communities c.args.image.now (λ i. (c.type_inv.image i).fits))

-- both lists are far from 2 ^ 62
pub overflow_add-result : goal.overflow_add-result
overflow_add-result c =
    let s = c.args.image.now in
    record { fits = omega (arith, c.list_size.ensures, c.list_size-2.ensures, list_bound Identifiers s (λ i. (c.type_inv.image i).fits), list_bound Communities s (λ i. (c.type_inv.image i).fits)) }

pub returns : goal.returns
returns c =
    let s = c.args.image.now in (
      ap₂ ◌+◌ (c.list_size.ensures ∙ identifiers-length s) (c.list_size-2.ensures ∙ communities-length s),
      omega (arith, c.list_size.ensures, c.list_size-2.ensures, list_bound Identifiers s (λ i. (c.type_inv.image i).fits), list_bound Communities s (λ i. (c.type_inv.image i).fits)),
    )

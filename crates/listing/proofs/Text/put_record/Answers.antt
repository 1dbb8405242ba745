-- `listing::Text::put_record` meets its contract. Assumes nothing.
use native.Mathlib.Omega.{arith}
use mathlib.Core.List.{[], ◌∷◌}
use mathlib.Core.Path.{refl}
use Rattle.store.specs.Listing.{decimal}
use Rattle.listing.specs.Contract.Texts.{role_field, record_line}
use Rattle.listing.proofs.Texts.{part, whole, line_is, line_length}
use Rattle.octets.proofs.Turns.{left_start, left_step, last_step}
use Rattle.listing.proofs.Text.put_record.Goals as goal

pub put_decimal-requires : goal.put_decimal-requires
put_decimal-requires c = let a = c.args in omega (arith, line_length a.position a.row.now refl refl)

pub put_octet-requires : goal.put_octet-requires
put_octet-requires c =
    let a = c.args in
    omega (arith, line_length a.position a.row.now refl refl)

pub put_role-requires : goal.put_role-requires
put_role-requires c =
    let a = c.args in
    omega (arith, line_length a.position a.row.now c.info_of.ensures c.role.ensures)

pub put_key-requires : goal.put_key-requires
put_key-requires c =
    let a = c.args in
    let e = c.info_of.ensures in
    let n = line_length a.position a.row.now e c.role.ensures in
    omega arith

pub returns-clause-written : goal.returns-clause-written
returns-clause-written c =
    let a = c.args in
    let b = a.self.now.buf.now in
    let h = c.requires in
    let all = record_line a.position a.row.now in
    let e = line_is a.position a.row.now c.info_of.ensures c.role.ensures in
    let l₁ = left_step b a.self.now.at all h (left_start _ _ _) (decimal a.position) _ e (part c.put_decimal.ensures.written) in
    let l₂ = left_step b a.self.now.at all h l₁ (32 ∷ []) _ refl (part c.put_octet.ensures.written) in
    let l₃ = left_step b a.self.now.at all h l₂ (role_field c.role.result) _ refl (part c.put_role.ensures.written) in
    whole a.self.now.buf.now a.self.now.at _ h (last_step b a.self.now.at all h l₃ (part c.put_key.ensures.written))

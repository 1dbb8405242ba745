-- Small laws of tests.
use mathlib.Core.Bool.{Bool, true, false, ◌&&◌, true≢false}
use mathlib.Core.Path.{◌≡◌, refl, sym}

pub and_true : (b : Bool) → b && true ≡ b
and_true true = refl
and_true false = refl

pub and_false : (b : Bool) → b && false ≡ false
and_false true = refl
and_false false = refl

pub on_true : {A : Type 0} (b : Bool) (x y : A) → b ≡ true → elim b [ false ↦ y | true ↦ x ] ≡ x
on_true true x y e = refl
on_true false x y e = absurd (true≢false (sym e))

pub on_false : {A : Type 0} (b : Bool) (x y : A) → b ≡ false → elim b [ false ↦ y | true ↦ x ] ≡ y
on_false true x y e = absurd (true≢false e)
on_false false x y e = refl

-- The table's rows: each names only rows above it, by one test over all of them, so a row stands for what it makes of the rows that it names.
use Rattle.std.specs.Prelude.{Ok}
use Prim.Native.Nat.{ℕ, zero, suc, ◌≤◌, ◌<◌}
use native.Mathlib.Omega.{arith}
use mathlib.Core.Bool.{Bool, true, ◌&&◌, and-eq-true_iff}
use mathlib.Core.List.{List}
use mathlib.Core.Path.{◌≡◌, refl, sym, ap, ap₂, ◌∙◌}
use lib.Dec.{ltb, eqb}
use lib.ListN.{get_or}
use borrow.Author.Tests.{ltb-true, eqb-true, eqb-false}
use Rattle.octets.proofs.Lists.{by_test}
use Rattle.syntax.specs.declared.row.Row.{Row}
use Rattle.syntax.specs.declared.row.Row.TheVariants.{Free, End, Many, Obeys, Field}
use Rattle.syntax.specs.Grammar.{Syntax, free, end, many, obeys, fit}
use Rattle.syntax.specs.Contract.Table.{count, rows}
use Rattle.syntax.specs.Contract.Rows.{row_at, rule_of, field_syntax, row_syntax, grown, grammar_of, Names, RowIs}

-- a test at each number below n, and what it shows at one of them
unfoldable pub every_below : (ℕ → Bool) → ℕ → Bool
every_below f zero = true
every_below f (suc n) = f n && every_below f n

pub every_below_lem : (f : ℕ → Bool) (n : ℕ) → every_below f n ≡ true → (k : ℕ) → k < n → f k ≡ true
unfolding every_below
every_below_lem f zero e k l = absurd (omega arith)
every_below_lem f (suc n) e k l =
    let h = (and-eq-true_iff (f n) (every_below f n)).0 e in
    by_test (eqb k n)
    (λ q. rw (eqb-true k n q) h.0)
    (λ q. every_below_lem f n h.1 k (omega (arith, eqb-false k n q)))

-- each row names only rows above it, by one test over all of them
names_above : ℕ → Row → Bool
names_above n (Many body) = ltb body n
names_above n (Obeys rule body) = ltb body n
names_above n (Field kind tag body next) = ltb body n && ltb next n
names_above n Free = true
names_above n End = true

names_lem : (n : ℕ) (row : Row) → names_above n row ≡ true → Names n row
unfolding names_above
names_lem n (Many body) e = ltb-true body n e
names_lem n (Obeys rule body) e = ltb-true body n e
names_lem n (Field kind tag body next) e = let h = (and-eq-true_iff (ltb body n) (ltb next n)).0 e in (ltb-true body n h.0, ltb-true next n h.1)
names_lem n Free e = tt
names_lem n End e = tt

above : (n : ℕ) → n < count → Names n (row_at n)
unfolding rows every_below names_above
above n l = names_lem n (row_at n) (every_below_lem (λ k. names_above k (row_at k)) count refl n l)

-- a row stands for the same, where those that it names do
module _ (o : List ℕ) (g h : ℕ → Syntax) (n : ℕ) (same : (m : ℕ) → m < n → g m ≡ h m) where
  row_alike : (row : Row) → Names n row → row_syntax o g row ≡ row_syntax o h row
  unfolding row_syntax
  row_alike (Many body) l = ap many (same body l)
  row_alike (Obeys rule body) l = ap (obeys (rule_of rule o)) (same body l)
  row_alike (Field kind tag body next) l = ap₂ (field_syntax kind tag) (same body l.0) (same next l.1)
  row_alike Free l = refl
  row_alike End l = refl

-- more fuel changes nothing

grown_first : (f : ℕ) (o : List ℕ) → grown f o zero ≡ free
unfolding grown
grown_first zero o = refl
grown_first (suc f) o = refl

step : (f g : ℕ) (o : List ℕ) → ((m : ℕ) → m ≤ f → m ≤ g → m < count → grown f o m ≡ grown g o m)
    → (n : ℕ) → n ≤ suc f → n ≤ suc g → n < count → grown (suc f) o n ≡ grown (suc g) o n
unfolding grown
step f g o ih zero h k l = refl
step f g o ih (suc n) h k l =
    row_alike o (grown f o) (grown g o) (suc n) (λ m b. ih m (omega arith) (omega arith) (omega arith)) (row_at (suc n)) (above (suc n) l)

enough : (f g : ℕ) (o : List ℕ) (n : ℕ) → n ≤ f → n ≤ g → n < count → grown f o n ≡ grown g o n
enough zero g o n h k l = let z : n ≡ 0 = omega arith in rw z (grown_first zero o ∙ sym (grown_first g o))
enough (suc f) zero o n h k l = let z : n ≡ 0 = omega arith in rw z (grown_first (suc f) o ∙ sym (grown_first zero o))
enough (suc f) (suc g) o n h k l = step f g o (enough f g o) n h k l

row_is : (n : ℕ) → n < count → RowIs n (row_at n)
unfolding rows row_syntax grown
row_is zero l = record { stands = λ o. refl; names = tt }
row_is (suc n) l =
    record {
      stands = λ o. row_alike o (grown n o) (grammar_of o) (suc n) (λ m b. enough n m o m (omega arith) (omega arith) (omega arith)) (row_at (suc n)) (above (suc n) l);
      names = above (suc n) l;
    }

-- a row of the table, as the code reads it
pub row_read : {table : List Row} {n : ℕ} {row : Row} → table ≡ rows → n < count → row ≡ get_or table n Free → RowIs n row
row_read {n = n} t l r = rw (r, t) (row_is n l)

-- the first row is free
pub first_fits : (o : List ℕ) {n : ℕ} (s : List ℕ) (at stop outer : ℕ) → n ≡ 0 → fit (grammar_of o n) s at stop outer ≡ Ok tt
unfolding grown fit
first_fits o s at stop outer z = ap (λ (r : ℕ). fit (grammar_of o r) s at stop outer) z

-- the second is the end
pub second_ends : (o : List ℕ) {n : ℕ} → n ≡ 1 → grammar_of o n ≡ end
unfolding rows row_syntax grown
second_ends o z = ap (grammar_of o) z

-- The keys of a run as a loop reads them, one element a turn, and lists of keys.
use Prim.Native.Nat.{ℕ, ◌≤◌}
use native.Mathlib.Omega.{arith}
use mathlib.Core.Bool.{true, false, ◌||◌, or-true, true≢false}
use mathlib.Core.List.{List, [], ◌∷◌, ◌++◌, map}
use mathlib.Core.Path.{◌≡◌, refl, sym, ap, ◌∙◌}
use Rattle.octets.specs.Lists.{any_of}
use Rattle.octets.specs.Octets.{same, member, distinct}
use Rattle.octets.proofs.Lists.{by_test, same_refl, same→≡, member-append, member-none, distinct_parts, neither, same_sym, distinct_none, distinct_first}
use Rattle.der.specs.declared.Element.{Element}
use Rattle.der.specs.Element.{absent}
use Rattle.der.proofs.Elements.{elements_end}
use Rattle.der.specs.declared.Compared.{Compared}
use Rattle.der.specs.Keys.{key_of, keys_from, keys_in}

module _ (by : Compared) (s : List ℕ) (at stop : ℕ) where
  pub keys_end : stop ≤ at → keys_from by s at stop ≡ []
  keys_end h = ap (map (key_of by s)) (elements_end s at stop h)

-- no list
pub none_in : (by : Compared) (s : List ℕ) {other : Element} → other ≡ absent 0 → keys_in by s other ≡ []
none_in by s e = ap (keys_in by s) e ∙ keys_end by s 0 0 (omega arith)

pub member-cons : (k x : List ℕ) (l : List (List ℕ)) → member k (x ∷ l) ≡ same k x || member k l
unfolding member any_of
member-cons k x l = refl

module _ (x : List ℕ) {l : List (List ℕ)} {k : List ℕ} {r : List (List ℕ)} (e : l ≡ k ∷ r) where
  pub member_hit : same x k ≡ true → member x l ≡ true
  member_hit t = ap (member x) e ∙ member-cons x k r ∙ rw t

  pub member_miss : same x k ≡ false → member x l ≡ member x r
  member_miss t = ap (member x) e ∙ member-cons x k r ∙ rw t

pub member_first : (x : List ℕ) (a b : List (List ℕ)) → member x a ≡ true → member x (a ++ b) ≡ true
member_first x a b h = member-append x a b ∙ rw h

pub member-both : (x : List ℕ) (a b : List (List ℕ)) → member x a ≡ false → member x (a ++ b) ≡ member x b
member-both x a b h = member-append x a b ∙ rw h

-- where no two are equal, none stands before itself
pub distinct_before : (a : List (List ℕ)) (k : List ℕ) (b : List (List ℕ)) → distinct (a ++ (k ∷ b)) ≡ true → member k a ≡ false
distinct_before [] k b h = member-none k
distinct_before (x ∷ a) k b h =
    let d = distinct_parts x (a ++ (k ∷ b)) h in
    by_test (same k x)
    (λ t.
    let m = member_hit x {l = k ∷ b} refl (ap (same x) (same→≡ k x t) ∙ same_refl x) in
    absurd (true≢false (sym (member-append x a (k ∷ b) ∙ rw m (or-true (member x a))) ∙ d.0)))
    (λ t. member_miss k {l = x ∷ a} refl t ∙ distinct_before a k b d.1)

-- lists to which a key is appended

pub distinct_more : (a : List (List ℕ)) (k : List ℕ) → distinct a ≡ true → member k a ≡ false → distinct (a ++ (k ∷ [])) ≡ true
distinct_more [] k d m = distinct_first k [] ∙ rw (member-none k) distinct_none
distinct_more (x ∷ a) k d m =
    let h = distinct_parts x a d in
    let n = neither (same k x) (member k a) (sym (member-cons k x a) ∙ m) in
    let other : member x (a ++ (k ∷ [])) ≡ false = member-append x a (k ∷ []) ∙ rw (h.0, member-cons x k [], same_sym x k, n.0) (member-none x) in
    distinct_first x (a ++ (k ∷ [])) ∙ rw other (distinct_more a k h.1 n.1)

-- 01, The store image: image and store tell each other.
use Rattle.std.specs.Prelude.{Option, Some, None}
use Rattle.std.proofs.lemmas.Option.{none-some, same_Some}
use Prim.Native.Nat.{ℕ}
use mathlib.Core.Bool.{true}
use mathlib.Core.List.{List, [], ◌∷◌, append-nil}
use mathlib.Core.Path.{◌≡◌, sym, ap, ◌∙◌}
use Rattle.octets.specs.Octets.{Octets}
use Rattle.store.specs.Store.{Store}
use Rattle.store.specs.Image.{found, encode, read_store, alone, decode, well_formed}
use Rattle.store.proofs.Formats.{store}

-- "nothing behind them"
module _ {A : Type 0} where
  pub alone-found : (o : Option (A × List ℕ)) (x : A) → alone o ≡ Some x → o ≡ found x []
  unfolding alone
  alone-found None x e = absurd (none-some x e)
  alone-found (Some p) x e = at_end p.0 p.1 e
    where
      at_end : (y : A) (t : List ℕ) → alone (found y t) ≡ Some x → found y t ≡ found x []
      at_end y [] e = ap (λ (z : A). found z []) (same_Some y x e)
      at_end y (c ∷ t) e = absurd (none-some x e)

pub decode-encode : (σ : Store) → well_formed σ ≡ true → decode (encode σ) ≡ Some σ
unfolding decode alone
decode-encode σ g = rw (← append-nil (encode σ), store.reads σ [] g)

pub decode-well_formed : (image : List ℕ) (σ : Store) → decode image ≡ Some σ → well_formed σ ≡ true
unfolding decode
decode-well_formed image σ e = (store.was image σ [] (alone-found (read_store image) σ e)).valid

pub encode-decode : (image : List ℕ) (σ : Store) → Octets image → decode image ≡ Some σ → encode σ ≡ image
unfolding decode
encode-decode image σ o e = sym (append-nil (encode σ)) ∙ (store.was image σ [] (alone-found (read_store image) σ e)).back o

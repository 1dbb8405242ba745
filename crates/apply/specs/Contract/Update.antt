-- What the code of an Update needs and leaves, by the rule book's `steps` and `with_seq_numbers`.
use Rattle.std.specs.Prelude.{ℕ, ◌≤◌, List, [], map, ◌≡◌, length, Ok}
use Rattle.octets.specs.declared.Status.{Status}
use Rattle.octets.specs.Limits.{max_updates}
use Rattle.octets.specs.Octets.{placed}
use Rattle.syntax.specs.declared.TampType.TheVariants.{Update}
use Rattle.rights.specs.Rights.{Rights}
use Rattle.store.specs.Store.{Store}
use Rattle.message.specs.declared.Request.{Request}
use Rattle.message.specs.Rows.{received}
use Rattle.message.specs.Fields.{entries_in}
use Rattle.protocol.specs.Update.{Steps, steps}
use Rattle.protocol.specs.Effect.{update_effect}
use Rattle.apply.specs.declared.scratch.ScratchImage.{ScratchImage}
use Rattle.apply.specs.Contract.Scratch.{Holds, Scratch, HoldsBoth, ScratchBoth}

-- statuses, an octet each
abbrev pub codes_of : List Status → List ℕ
codes_of l = map (λ status. status.number) l

-- s asks for the Update q, of at most 16 entries, the scratch d holds a store, and there is an octet in codes for every entry
pub record Enterable (s : List ℕ) (q : Request) (d : List ℕ) (len : ℕ) (codes : List ℕ) : Type 0 where
  pub asked : received s ≡ Ok q
  pub update : q.kind ≡ Update
  pub scratch : Scratch d len
  pub few : length (entries_in s q.updates) ≤ max_updates
  pub space : max_updates ≤ length codes

-- the scratch and the octets are those of all entries
pub record LeavesAll (σ : Store) (done : Steps) (codes : List ℕ) (w : ScratchImage) (codes' : List ℕ) : Type 0 where
  pub after : HoldsBoth σ done.old done.new w.octets w.len w.former
  pub written : codes' ≡ placed codes 0 (codes_of done.statuses)

pub record EntersAll (s : List ℕ) (rights : Rights) (q : Request) (w : ScratchImage) (codes : List ℕ) (w' : ScratchImage) (codes' : List ℕ) : Type 0 where
  pub room : length w'.octets ≡ length w.octets
  pub does : (σ : Store) → Holds σ w.octets w.len → LeavesAll σ (steps s rights σ.apex σ.others [] (entries_in s q.updates)) codes w' codes'

-- s asks for the Update q, and the scratch holds what its entries left
pub record Numerable (s : List ℕ) (q : Request) (d : List ℕ) (len k : ℕ) : Type 0 where
  pub asked : received s ≡ Ok q
  pub update : q.kind ≡ Update
  pub scratch : ScratchBoth d len k

-- the store and the statuses of the whole message: r is the length of the image
pub record UpdatedAs (s : List ℕ) (rights : Rights) (q : Request) (d : List ℕ) (len : ℕ) (codes : List ℕ) (r : ℕ) (d' codes' : List ℕ) : Type 0 where
  pub room : length d' ≡ length d
  pub store : (σ : Store) → Holds σ d len → Holds (update_effect s q rights σ).store d' r
  pub statuses : (σ : Store) → Holds σ d len
      → codes' ≡ placed codes 0 (codes_of (steps s rights σ.apex σ.others [] (entries_in s q.updates)).statuses)

-- 01's own examples of DER, computed.
use Rattle.std.specs.Prelude.{Ok, Err}
use Prim.Native.Nat.{ℕ, zero, suc}
use mathlib.Core.Bool.{true, false}
use mathlib.Core.List.{List, [], ◌∷◌}
use mathlib.Core.Path.{◌≡◌, refl}
use lib.ListN.{length, replicate}
use Rattle.octets.specs.Octets.{ordered}
use Rattle.octets.specs.Limits.{max_number}
use Rattle.octets.specs.Number.{number_from, big_endian, digits}
use Rattle.der.specs.Element.{length_at, length_shortest, headed, element_at, elements_from, elements}
use Rattle.der.specs.Fit.{and_then, held, each_from, each}
use Rattle.der.specs.Contents.{integer_ok, contents_ok}
use Rattle.der.specs.Write.{length_octets, integer_contents}
use Rattle.der.specs.Check.{sorted_in, der, spans}

-- "81 7F is wrong, 81 80 right"
shortest : ((element_at (4 ∷ 0x81 ∷ 0x7F ∷ replicate 127 0) 0 130).valid ≡ false) × ((element_at (4 ∷ 0x81 ∷ 0x80 ∷ replicate 128 0) 0 131).valid ≡ true)
unfolding element_at headed length_shortest length_at number_from
shortest = (refl, refl)

-- 02, E5: 80 and 82 00 80 are wrong; 82 FF FF is read as 65,535, and written for it
forms : (length_shortest (4 ∷ 0x80 ∷ 0 ∷ 0 ∷ []) 0 ≡ false)
    × ((length_shortest (4 ∷ 0x82 ∷ 0x00 ∷ 0x80 ∷ []) 0 ≡ false)
    × ((length_at (4 ∷ 0x82 ∷ 0xFF ∷ 0xFF ∷ []) 0 ≡ 65535) × (length_octets 65535 ≡ 0x82 ∷ 0xFF ∷ 0xFF ∷ [])))
unfolding length_shortest length_at number_from length_octets digits
forms = (refl, (refl, (refl, refl)))

-- 02, E1: numbers are INTEGERs of 1 to 8 octets
integers : (integer_contents 0 ≡ 0 ∷ [])
    × ((integer_contents 127 ≡ 0x7F ∷ [])
    × ((integer_contents 128 ≡ 0x00 ∷ 0x80 ∷ [])
    × ((integer_contents 32768 ≡ 0x00 ∷ 0x80 ∷ 0x00 ∷ []) × (integer_contents max_number ≡ 0x7F ∷ replicate 7 0xFF))))
unfolding integer_contents digits big_endian
integers = (refl, (refl, (refl, (refl, refl))))

-- n sequences, each in the one before it
nested : ℕ → List ℕ
nested zero = []
nested (suc n) = 0x30 ∷ length (nested n) ∷ nested n

-- "to depth 16 (the outermost is depth 1); depth 17 is a decode failure", charged to the element at depth 17
depth : (spans 16 (nested 16) 0 32 0 ≡ Ok tt) × (spans 16 (nested 17) 0 34 0 ≡ Err 32)
unfolding spans der each each_from and_then held elements elements_from element_at headed length_shortest length_at number_from sorted_in nested
depth = (refl, refl)

-- "SET OF sorted": the second member is charged
sorted : (spans 16 (0x31 ∷ 6 ∷ 2 ∷ 1 ∷ 1 ∷ 2 ∷ 1 ∷ 2 ∷ []) 0 8 0 ≡ Ok tt) × (spans 16 (0x31 ∷ 6 ∷ 2 ∷ 1 ∷ 2 ∷ 2 ∷ 1 ∷ 1 ∷ []) 0 8 0 ≡ Err 5)
unfolding spans der each each_from and_then held elements elements_from element_at headed length_shortest length_at number_from sorted_in ordered contents_ok integer_ok
sorted = (refl, refl)

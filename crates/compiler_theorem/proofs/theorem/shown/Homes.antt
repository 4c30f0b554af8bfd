-- What stands in a row of memories stands by the joined homes.
use Rattle.std.proofs.Common.{◌≡◌, ℕ, zero, suc, ◌+◌, ◌<◌, ◌^◌, ◌%◌, List, [], ◌∷◌, length, refl, sym, ap, ◌∙◌, subst, arith}
use Rattle.std.proofs.Math.Nat.{mod-add-mod}
use Rattle.compiler_theorem.specs.theorem.Rows.{joined, joined_home}
use Rattle.compiler.proofs.run_laws.memory.Homes.{seen_within}
use Rattle.compiler.specs.run_laws.memory.Pointers.{AreBytes, Home, IsByte, IsSeen, IsValue, home_of, moved_pointer}
use Rattle.compiler.specs.run_memory.Pointers.{moved}
use Rattle.compiler.specs.run_memory.declared.block.Byte.{Byte}
use Rattle.compiler.specs.run_memory.declared.pointer.Offset.{Offset}
use Rattle.compiler.specs.run_memory.declared.pointer.Pointer.{Pointer}
use Rattle.compiler.specs.run_memory.declared.pointer.Value.{Value}

-- a home within the list
pub home_joined : (homes more : List Home) (b : ℕ) → b < length homes
    → home_of (joined homes more) b ≡ joined_home more (home_of homes b)
home_joined [] more b lt = absurd (omega (arith, lt))
home_joined (h ∷ homes) more zero lt = refl
home_joined (h ∷ homes) more (suc b) lt = home_joined homes more b (omega (arith, lt))

-- two moves are one
twice_moved : (o : Offset) (d e : ℕ) → moved (moved o d) e ≡ moved o (d + e)
twice_moved o d e =
    let s : o.bits + d + e ≡ o.bits + (d + e) = omega arith in
    ap (λ (n : ℕ). record { bits = n }) (mod-add-mod (o.bits + d) (2 ^ 64) e ∙ ap (λ (n : ℕ). n % 2 ^ 64) s)

module _ (homes more : List Home) where
  seen_joined : (p : Pointer) → IsSeen homes p → IsSeen (joined homes more) p
  seen_joined Pointer.Null h = tt
  seen_joined (Pointer.Func g) h = tt
  seen_joined (Pointer.At b o) h =
      ap (λ (q : Home). q.is_seen) (home_joined homes more b (seen_within homes b h))

  pointer_joined : (p : Pointer) → IsSeen homes p
      → moved_pointer more (moved_pointer homes p) ≡ moved_pointer (joined homes more) p
  pointer_joined Pointer.Null h = refl
  pointer_joined (Pointer.Func g) h = refl
  pointer_joined (Pointer.At b o) h =
      ap (Pointer.At (home_of more (home_of homes b).block).block)
      (twice_moved o (home_of homes b).offset (home_of more (home_of homes b).block).offset)
      ∙ ap (λ (q : Home). Pointer.At q.block (moved o q.offset))
      (sym (home_joined homes more b (seen_within homes b h)))

  byte_joined : (x y z : Byte) → IsByte homes x y → IsByte more y z → IsByte (joined homes more) x z
  byte_joined Byte.Undefined y z h k = tt
  byte_joined (Byte.Number n) y z h k = subst (λ (u : Byte). IsByte more u z) h k
  byte_joined (Byte.Part p n) y z h k =
      let there = subst (λ (u : Byte). IsByte more u z) h.1 k in
      (seen_joined p h.0, there.1 ∙ ap (λ (q : Pointer). Byte.Part q n) (pointer_joined p h.0))

  pub bytes_joined : (xs ys zs : List Byte) → AreBytes homes xs ys → AreBytes more ys zs
      → AreBytes (joined homes more) xs zs
  bytes_joined [] [] [] h k = tt
  bytes_joined [] [] (z ∷ zs) h k = absurd k
  bytes_joined [] (y ∷ ys) zs h k = absurd h
  bytes_joined (x ∷ xs) [] zs h k = absurd h
  bytes_joined (x ∷ xs) (y ∷ ys) [] h k = absurd k
  bytes_joined (x ∷ xs) (y ∷ ys) (z ∷ zs) h k =
      (byte_joined x y z h.0 k.0, bytes_joined xs ys zs h.1 k.1)

  pub value_joined : (u v w : Value) → IsValue homes u v → IsValue more v w → IsValue (joined homes more) u w
  value_joined Value.Poison v w h k = tt
  value_joined (Value.Int x) v w h k = subst (λ (y : Value). IsValue more y w) h k
  value_joined (Value.Ptr p) v w h k =
      let there = subst (λ (y : Value). IsValue more y w) h.1 k in
      (seen_joined p h.0, there.1 ∙ ap Value.Ptr (pointer_joined p h.0))

-- Blocks of a memory found and changed.
use Rattle.std.proofs.Common.{◌≡◌, ℕ, zero, suc, ◌≤◌, ◌<◌, List, [], ◌∷◌, ◌++◌, length, get_or, set, Option, Some, None, refl, sym, ap, ◌∙◌, subst, arith}
use Rattle.std.specs.Prelude.{slice_get}
use Rattle.std.proofs.lemmas.Option.{slice_get_read, slice_get_within}
use Rattle.std.proofs.lemmas.List.Elements.{All-set, All-get_or, All-push}
use Rattle.run_memory.specs.declared.block.MemoryBlock.{MemoryBlock}
use Rattle.run_memory.specs.Memory.{with_block}
use Rattle.run_memory.specs.Whole.{IsWhole, AreWhole, IsWithin}

pub with_block_at : (m : List MemoryBlock) (b : ℕ) (f : MemoryBlock → MemoryBlock) (x : MemoryBlock) → slice_get m b ≡ Some x → set m b (f x) ≡ with_block m b f
with_block_at [] b f x e = absurd (cc)
with_block_at (y ∷ m) zero f x e = let same : y ≡ x = cc in ap (λ (z : MemoryBlock). f z ∷ m) (sym same)
with_block_at (y ∷ m) (suc b) f x e = ap (λ (l : List MemoryBlock). y ∷ l) (with_block_at m b f x e)

pub with_block_past : (m : List MemoryBlock) (b : ℕ) (f : MemoryBlock → MemoryBlock) → length m ≤ b → m ≡ with_block m b f
with_block_past [] b f le = refl
with_block_past (y ∷ m) zero f le = absurd (omega arith)
with_block_past (y ∷ m) (suc b) f le = ap (λ (l : List MemoryBlock). y ∷ l) (with_block_past m b f (omega arith))

-- a block that the code changed
pub changed : (m : List MemoryBlock) (b : ℕ) (f : MemoryBlock → MemoryBlock) (x y : MemoryBlock) → b < length m → x ≡ get_or m b x → y ≡ f x → set m b y ≡ with_block m b f
changed m b f x y lt is e = ap (set m b) e ∙ with_block_at m b f x (slice_get_read m (length m) b x refl lt is)

pub whole_at : (m : List MemoryBlock) (b : ℕ) (x : MemoryBlock) → AreWhole m → b < length m → x ≡ get_or m b x → IsWhole x
whole_at m b x h lt is = subst IsWhole (sym is) (All-get_or IsWhole m b x lt h)

pub whole_set : (m : List MemoryBlock) (b : ℕ) (y : MemoryBlock) → AreWhole m → IsWhole y → AreWhole (set m b y)
whole_set m b y h w = All-set IsWhole m b y w h

pub whole_push : (m : List MemoryBlock) (y : MemoryBlock) → AreWhole m → IsWhole y → AreWhole (m ++ y ∷ [])
whole_push m y h w = All-push IsWhole m y h w

-- the code's memory after a block changed
pub change_at : (bl m : List MemoryBlock) (b : ℕ) (f : MemoryBlock → MemoryBlock) (x y : MemoryBlock) → bl ≡ m → x ≡ get_or bl b x → b < length bl → y ≡ f x → set bl b y ≡ with_block m b f
change_at bl m b f x y same is lt e = changed bl b f x y lt is e ∙ ap (λ (l : List MemoryBlock). with_block l b f) same

pub change_past : (bl m : List MemoryBlock) (b : ℕ) (f : MemoryBlock → MemoryBlock) → bl ≡ m → length bl ≤ b → m ≡ with_block m b f
change_past bl m b f same le = with_block_past m b f (omega (arith, ap (λ (l : List MemoryBlock). length l) same))

pub block_below : (m : List MemoryBlock) (b o n : ℕ) (x : Option MemoryBlock) → slice_get m b ≡ x → IsWithin x o n → b < length m
block_below m b o n None e h = absurd h
block_below m b o n (Some x) e h = slice_get_within m b x e

-- the code's memory after a block that a range lies in changed
pub change_within : (bl m : List MemoryBlock) (b o n : ℕ) (f : MemoryBlock → MemoryBlock) (x y : MemoryBlock) → bl ≡ m → x ≡ get_or bl b x → IsWithin (slice_get m b) o n → y ≡ f x → set bl b y ≡ with_block m b f
change_within bl m b o n f x y same is h e =
    let lt : b < length m = block_below m b o n (slice_get m b) refl h in
    let len : length bl ≡ length m = ap (λ (l : List MemoryBlock). length l) same in
    change_at bl m b f x y same is (omega arith) e

pub within_along : (x : Option MemoryBlock) (o n k : ℕ) → k ≡ n → IsWithin x o n → IsWithin x o k
within_along x o n k e h = subst (λ (i : ℕ). IsWithin x o i) (sym e) h

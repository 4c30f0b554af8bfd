-- Bytes copied from one block to another, in a list of blocks that is cut in two.
use Rattle.std.proofs.Common.{◌≡◌, ℕ, ◌+◌, ◌-◌, ◌<◌, List, ◌++◌, length, get_or, set, take, drop, Option, Some, refl, sym, ap, ◌∙◌, subst, arith, length-append}
use Rattle.std.specs.Prelude.{slice_get}
use Rattle.std.proofs.lemmas.Option.{slice_get_read}
use Rattle.std.proofs.lemmas.List.{get_or_append_left, get_or-append_right, set-append_left, set-append_right}
use Rattle.run_memory.specs.declared.pointer.Spot.{Spot}
use Rattle.run_memory.specs.declared.block.Byte.{Byte}
use Rattle.run_memory.specs.declared.block.MemoryBlock.{MemoryBlock}
use Rattle.run_memory.specs.Memory.{bytes_at, bytes_in, with_bytes, write}
use Rattle.run_memory.specs.Whole.{IsWhole, AreWhole, IsWithin}
use Rattle.run_memory.proofs.Blocks.{with_block_at, whole_set, block_below}

-- a block whose bytes became a copy of another's
pub copied_at : (m : List MemoryBlock) (to from : Spot) (len : ℕ) (x s y : MemoryBlock) (bytes : List Byte) → slice_get m to.block ≡ Some x → slice_get m from.block ≡ Some s → bytes ≡ take len (drop from.offset s.bytes) → y ≡ with_bytes to.offset bytes x → set m to.block y ≡ write m to (bytes_at m from len)
copied_at m to from len x s y bytes at_to at_from p w =
    let e : bytes ≡ bytes_at m from len = p ∙ sym (ap (λ (o : Option MemoryBlock). take len (drop from.offset (bytes_in o))) at_from) in
    ap (set m to.block) (w ∙ ap (λ (l : List Byte). with_bytes to.offset l x) e) ∙ with_block_at m to.block (with_bytes to.offset (bytes_at m from len)) x at_to

pub split_low : (m low high : List MemoryBlock) (i : ℕ) (x : MemoryBlock) → m ≡ low ++ high → i < length low → x ≡ get_or low i x → slice_get m i ≡ Some x
split_low m low high i x e lt is =
    let len : length m ≡ length low + length high = ap (λ (l : List MemoryBlock). length l) e ∙ length-append low high in
    slice_get_read m (length m) i x refl (omega arith) (is ∙ sym (get_or_append_left low high x i lt) ∙ ap (λ (l : List MemoryBlock). get_or l i x) (sym e))

pub split_high : (m low high : List MemoryBlock) (n : ℕ) (x : MemoryBlock) → m ≡ low ++ high → length low ≡ n → n < length m → x ≡ get_or high 0 x → slice_get m n ≡ Some x
split_high m low high n x e at lt is =
    let none : n - n ≡ 0 = omega arith in
    slice_get_read m (length m) n x refl lt
    (is ∙ ap (λ (i : ℕ). get_or high i x) (sym none) ∙ sym (get_or-append_right low high n n x at (omega arith)) ∙ ap (λ (l : List MemoryBlock). get_or l n x) (sym e))

pub set_low : (m low high : List MemoryBlock) (i : ℕ) (y : MemoryBlock) → m ≡ low ++ high → i < length low → set low i y ++ high ≡ set m i y
set_low m low high i y e lt = sym (set-append_left low high i y lt) ∙ ap (λ (l : List MemoryBlock). set l i y) (sym e)

pub set_high : (m low high : List MemoryBlock) (n : ℕ) (y : MemoryBlock) → m ≡ low ++ high → length low ≡ n → low ++ set high 0 y ≡ set m n y
set_high m low high n y e at =
    let none : n - n ≡ 0 = omega arith in
    ap (λ (i : ℕ). low ++ set high i y) (sym none) ∙ sym (set-append_right low high n n y at (omega arith)) ∙ ap (λ (l : List MemoryBlock). set l n y) (sym e)

pub whole_along : (m n : List MemoryBlock) (i : ℕ) (y : MemoryBlock) → n ≡ set m i y → AreWhole m → IsWhole y → AreWhole n
whole_along m n i y e h w = subst AreWhole (sym e) (whole_set m i y h w)

-- a block in which bytes were copied
pub same_block : (bl m : List MemoryBlock) (to from : Spot) (len : ℕ) (x y : MemoryBlock) → bl ≡ m → x ≡ get_or bl to.block x → IsWithin (slice_get m to.block) to.offset len → to.block ≡ from.block → y ≡ with_bytes to.offset (take len (drop from.offset x.bytes)) x → set bl to.block y ≡ write m to (bytes_at m from len)
same_block bl m to from len x y same is h at w =
    let lt : to.block < length m = block_below m to.block to.offset len (slice_get m to.block) refl h in
    let is' : x ≡ get_or m to.block x = is ∙ ap (λ (l : List MemoryBlock). get_or l to.block x) same in
    let stands : slice_get m to.block ≡ Some x = slice_get_read m (length m) to.block x refl lt is' in
    ap (λ (l : List MemoryBlock). set l to.block y) same
    ∙ copied_at m to from len x x y _ stands (ap (slice_get m) (sym at) ∙ stands) refl w

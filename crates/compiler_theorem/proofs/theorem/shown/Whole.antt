-- Live blocks that nobody owns stand whole where they are at home.
use Rattle.std.proofs.Common.{◌≡◌, Bool, true, false, ℕ, ◌+◌, ◌<◌, ◌≤◌, List, Some, None, length, take, drop, ap, ◌∙◌, subst, arith, get_or}
use Rattle.std.proofs.lemmas.List.{take_all}
use Rattle.std.specs.Prelude.{option_map, slice_get}
use Rattle.pass_frames_meaning.proofs.pass_renewed_proof.Places.{muted_at}
use Rattle.compiler.proofs.run_laws.memory.Matching.{cut_stands}
use Rattle.compiler.specs.run_laws.memory.Pointers.{AreBytes, Home, IsByte, home_of}
use Rattle.compiler.specs.run_laws.memory.Standing.{Embeds}
use Rattle.compiler.specs.run_laws.transfer.Muted.{ended_if, muted}
use Rattle.compiler.specs.run_memory.Memory.{Rights, is_below, is_live, owner_rights}
use Rattle.compiler.specs.run_memory.declared.block.Byte.{Byte}
use Rattle.compiler.specs.run_memory.declared.block.MemoryBlock.{MemoryBlock}

-- all bytes of a block stand from the home's offset on
pub record IsWhole (homes : List Home) (n : List MemoryBlock) (b : ℕ) (x : MemoryBlock) : Type 0 where
  pub block : MemoryBlock
  pub there : slice_get n (home_of homes b).block ≡ Some block
  pub full : length x.bytes ≡ x.size
  pub whole : length block.bytes ≡ block.size
  pub bytes : AreBytes homes x.bytes (take (length x.bytes) (drop (home_of homes b).offset block.bytes))

whole_cut : (homes : List Home) (o size room : ℕ) (cs ds : List Byte)
    → length cs ≡ size → length ds ≡ room → o + size ≤ room
    → ((i : ℕ) → i < size → IsByte homes (get_or cs i Byte.Undefined) (get_or ds (o + i) Byte.Undefined))
    → AreBytes homes cs (take (length cs) (drop o ds))
whole_cut homes o size room cs ds full whole fits each =
    subst (λ (bs : List Byte). AreBytes homes bs (take (length cs) (drop o ds)))
    (take_all (length cs) cs (omega arith))
    (cut_stands homes cs ds 0 o (length cs) (omega arith) (omega (arith, full, whole, fits))
    (λ i lt. subst (λ (k : ℕ). IsByte homes (get_or cs k Byte.Undefined)
    (get_or ds (o + i) Byte.Undefined)) (from_zero i)
    (each i (omega (arith, lt, full)))))
  where
    from_zero : (i : ℕ) → i ≡ 0 + i
    from_zero i = omega arith

pub whole_stands : (target : Rights) (homes : List Home) (hides : ℕ → Bool) (m n : List MemoryBlock) (b : ℕ)
    (x : MemoryBlock) → Embeds owner_rights target homes (muted hides m) n → hides b ≡ false → slice_get m b ≡ Some x
    → is_live x.life ≡ true → x.owned ≡ None → IsWhole homes n b x
whole_stands target homes hides m n b x embeds shown there live free =
    let still : slice_get (muted hides m) b ≡ Some x =
    muted_at hides m b ∙ (λ i. option_map (ended_if (shown i)) (there i)) in
    let s = embeds.each b x still live in
    record {
      block = s.block;
      there = s.there;
      full = s.full;
      whole = s.whole;
      bytes = whole_cut homes (home_of homes b).offset x.size s.block.size x.bytes s.block.bytes s.full s.whole s.fits
          (λ i lt. s.bytes i lt (ap (is_below i) free));
    }

-- A block of 48 bytes, in which a coroutine begins whose frame has 32.
use Rattle.std.proofs.Common.{◌≡◌, ◌≢◌, ℕ, zero, suc, ◌+◌, true, not, List, [], ◌∷◌, Some, None, refl, sym, ap, ◌∙◌, subst, arith}
use Rattle.std.specs.Prelude.{slice_get}
use Rattle.std.proofs.lemmas.List.{length-replicate}
use Rattle.run_access_worked.proofs.Begun.{begun_stands}
use Rattle.run_laws_worked.specs.run_memory.Memory.{is_live, meets, owner_rights}
use Rattle.run_laws_worked.specs.run_memory.declared.block.Byte.{Byte}
use Rattle.run_laws_worked.specs.run_memory.declared.block.Kind.{Kind}
use Rattle.run_laws_worked.specs.run_memory.declared.block.MemoryBlock.{MemoryBlock}
use Rattle.run_laws_worked.proofs.Frames.{blank_byte, from_start}
use Rattle.run_laws_worked.specs.Worked.{an_instance, frame_given, owned_block}
use Rattle.run_laws_worked.specs.run_framed.Framed.{FramedGiven, frame_rights, is_open}
use Rattle.run_laws_worked.proofs.run_laws.memory.Written.{same_some}
use Rattle.run_laws_worked.specs.run_laws.memory.Pointers.{Home, home_of}
use Rattle.run_laws_worked.specs.run_laws.memory.Standing.{AreApart, Embeds, Stands, blank_block}
use Rattle.run_laws_worked.specs.run_source_tables.Given.{Given}
use Rattle.run_laws_worked.specs.run_laws.embedded.Making.{whole_home}
use Rattle.run_laws_worked.specs.run_laws.embedded.Marks.{LivesAlone}

abbrev block : MemoryBlock
block = blank_block 48 16 Kind.Allocator

abbrev homes : List Home
homes = whole_home 0 ∷ []

module _ (g : FramedGiven) where
  all_open : (b k len : ℕ) → is_open g [] b k len ≡ true
  all_open b k zero = refl
  all_open b k (suc len) = all_open b (k + 1) len

  block_stands : Stands owner_rights (frame_rights g []) homes (block ∷ []) 0 block
  block_stands = record {
    known = omega arith;
    block = block;
    there = refl;
    live = refl;
    full = length-replicate 48 Byte.Undefined;
    whole = length-replicate 48 Byte.Undefined;
    fits = omega arith;
    small = omega arith;
    writable = λ e. e;
    allowed = record {
      opens = λ o len within e. ap not (all_open 0 (0 + o) len);
      aligned = λ o len align pos within free ok e. ap (λ (k : ℕ). meets block k align) (from_start o) ∙ e;
      comparable = λ o within e. refl;
    };
    bytes = λ i lt op. blank_byte homes block 48 i _ refl lt;
  }

  pub block_embeds : Embeds owner_rights (frame_rights g []) homes (block ∷ []) (block ∷ [])
  block_embeds = record { each = each; apart = apart }
    where
      each : (b : ℕ) (y : MemoryBlock) → slice_get (block ∷ []) b ≡ Some y → is_live y.life ≡ true → Stands owner_rights (frame_rights g []) homes (block ∷ []) b y
      each zero y at live = subst (λ (z : MemoryBlock). Stands owner_rights (frame_rights g []) homes (block ∷ []) 0 z) (same_some block y at) block_stands
      each (suc b) y at live = absurd (cc)

      apart : (b c : ℕ) (y z : MemoryBlock) → b ≢ c → slice_get (block ∷ []) b ≡ Some y → slice_get (block ∷ []) c ≡ Some z → is_live y.life ≡ true → is_live z.life ≡ true → (home_of homes b).block ≡ (home_of homes c).block → AreApart owner_rights (home_of homes b) (home_of homes c) b c y z
      apart zero zero y z ne at_b at_c live live' shared = absurd (ne refl)
      apart zero (suc c) y z ne at_b at_c live live' shared = absurd (cc)
      apart (suc b) c y z ne at_b at_c live live' shared = absurd (cc)

pub begins : (given : Given) → Embeds owner_rights (frame_rights (frame_given given) (an_instance ∷ [])) homes (owned_block 48 16 32 ∷ []) (owned_block 48 16 32 ∷ [])
begins given = begun_stands (frame_given given) [] an_instance homes (block ∷ []) (block ∷ []) 0 32 refl refl refl refl alone unowned (block_embeds (frame_given given))
  where
    alone : LivesAlone homes (block ∷ []) 0
    alone zero z ne at live = absurd (ne refl)
    alone (suc c) z ne at live = absurd (cc)

    unowned : (y : MemoryBlock) → slice_get (block ∷ []) 0 ≡ Some y → y.owned ≡ None
    unowned y e = sym (ap (λ (z : MemoryBlock). z.owned) (same_some block y e))

-- A slot in a field of a frame, and the block in which the frame lies.
use Rattle.std.proofs.Common.{◌≡◌, ◌≢◌, ℕ, zero, suc, ◌+◌, ◌-◌, ◌%◌, ◌<◌, ◌≤◌, ◌⊎◌, inl, inr, Bool, true, false, not, List, [], ◌∷◌, Some, None, refl, sym, ap, ◌∙◌, subst, ⊎_elim, arith, if◌then◌else◌, ◌&&◌, ◌||◌, ◌==◌, nat_le}
use Rattle.std.specs.Prelude.{nat_lt, slice_get, option_and_then}
use Rattle.std.proofs.lemmas.Bool.{and_from, and_parts, cases_lt, eq-eqb, eqb-true, false≢true, le-leb, lt-ltb, ltb-false}
use Rattle.std.proofs.lemmas.List.{length-replicate}
use Rattle.run_laws.specs.run_memory.Memory.{is_live, meets, owner_rights}
use Rattle.run_laws.specs.run_memory.declared.block.Byte.{Byte}
use Rattle.run_laws.specs.run_memory.declared.block.MemoryBlock.{MemoryBlock}
use Rattle.run_source.specs.State.{numbered, or_else}
use Rattle.run_laws_worked.proofs.Frames.{blank_byte, owned_stands}
use Rattle.run_laws_worked.specs.Worked.{an_instance, frame_given, owned_block, slot_home, worked_slot}
use Rattle.run_framed.specs.Framed.{covers, frame_rights, is_open, is_open_byte, judge_of, meets_in}
use Rattle.run_laws.proofs.memory.Changes.{apart_turned}
use Rattle.run_laws.proofs.memory.Written.{same_some}
use Rattle.run_laws.specs.memory.Pointers.{Home, home_of}
use Rattle.run_laws.specs.memory.Standing.{AreApart, Embeds, IsAlignment, Stands}
use Rattle.run_source_tables.specs.Given.{Given}
use Rattle.run_laws.specs.embedded.Making.{whole_home}

abbrev homes : List Home
homes = whole_home 0 ∷ slot_home ∷ []

abbrev source : List MemoryBlock
source = owned_block 48 16 32 ∷ worked_slot ∷ []

abbrev goal : List MemoryBlock
goal = owned_block 48 16 32 ∷ []

module _ (given : Given) where
  -- ---- bytes of the field

  covered : (k : ℕ) → k < 32 → covers (frame_given given) 0 k an_instance ≡ true
  covered k lt = and_from _ _ (and_from _ _ refl (le-leb 0 k (omega arith))) (lt-ltb k 32 lt)

  judged : (k : ℕ) → k < 32 → judge_of (frame_given given) (an_instance ∷ []) 0 k ≡ Some (0, an_instance)
  judged k lt = ap (λ (t : Bool). option_and_then (numbered (an_instance ∷ [])) (or_else None (if t then Some 0 else None))) (covered k lt)

  byte_opens : (k : ℕ) → 24 ≤ k → k < 32 → is_open_byte (frame_given given) k (Some (0, an_instance)) ≡ true
  byte_opens k le lt = λ i. (le-leb 24 (k - 0) (omega arith) i && lt-ltb (k - 0) 32 (omega arith) i) || false

  opens_inside : (k len : ℕ) → 24 ≤ k → k + len ≤ 32 → is_open (frame_given given) (an_instance ∷ []) 0 k len ≡ true
  opens_inside k zero le within = refl
  opens_inside k (suc len) le within =
      let lt : k < 32 = omega arith in
      and_from _ _ (ap (is_open_byte (frame_given given) k) (judged k lt) ∙ byte_opens k le lt) (opens_inside (k + 1) len (omega arith) (omega arith))

  -- ---- alignments in the field

  divides : (o d : ℕ) → IsAlignment d → (o % d == 0) ≡ true → nat_le d 8 ≡ true → ((24 + o - 0) % d == 0) ≡ true
  divides o d (inl is) e le = subst (λ (k : ℕ). (o % k == 0) ≡ true → ((24 + o - 0) % k == 0) ≡ true) (sym is) (λ h. eq-eqb _ 0 (omega arith)) e
  divides o d (inr (inl is)) e le = subst (λ (k : ℕ). (o % k == 0) ≡ true → ((24 + o - 0) % k == 0) ≡ true) (sym is) (λ h. let r = eqb-true (o % 2) 0 h in eq-eqb _ 0 (omega arith)) e
  divides o d (inr (inr (inl is))) e le = subst (λ (k : ℕ). (o % k == 0) ≡ true → ((24 + o - 0) % k == 0) ≡ true) (sym is) (λ h. let r = eqb-true (o % 4) 0 h in eq-eqb _ 0 (omega arith)) e
  divides o d (inr (inr (inr (inl is)))) e le = subst (λ (k : ℕ). (o % k == 0) ≡ true → ((24 + o - 0) % k == 0) ≡ true) (sym is) (λ h. let r = eqb-true (o % 8) 0 h in eq-eqb _ 0 (omega arith)) e
  divides o d (inr (inr (inr (inr is)))) e le = absurd (false≢true (sym (ap (λ (k : ℕ). nat_le k 8) is) ∙ le))

  aligned_inside : (y : MemoryBlock) (o d : ℕ) → o < 8 → IsAlignment d → meets worked_slot o d ≡ true → meets_in (frame_given given) y (24 + o) d (judge_of (frame_given given) (an_instance ∷ []) 0 (24 + o)) ≡ true
  aligned_inside y o d lt ok e =
      let h = and_parts _ _ e in
      ap (meets_in (frame_given given) y (24 + o) d) (judged (24 + o) (omega arith)) ∙ and_from _ _ (divides o d ok h.0 h.1) h.1

  pub slot_stands : Stands owner_rights (frame_rights (frame_given given) (an_instance ∷ [])) homes goal 1 worked_slot
  slot_stands = record {
    known = omega arith;
    block = owned_block 48 16 32;
    there = refl;
    live = refl;
    full = length-replicate 8 Byte.Undefined;
    whole = length-replicate 48 Byte.Undefined;
    fits = omega arith;
    small = omega arith;
    writable = λ e. refl;
    allowed = record {
      opens = λ o len within e. ap not (opens_inside (24 + o) len (omega arith) (omega arith));
      aligned = λ o len align pos within free ok e. aligned_inside (owned_block 48 16 32) o align (omega arith) ok e;
      comparable = λ o within e. refl;
    };
    bytes = λ i lt op. blank_byte homes worked_slot 8 i _ refl lt;
  }

  -- ---- the two stand apart

  -- pointers into the owned block may be compared at its start and behind what is owned
  at_edge : (i : ℕ) → ((i == 0) || not (nat_lt i 32)) ≡ true → (i ≡ 0) ⊎ (32 ≤ i)
  at_edge i e = ⊎_elim
      (λ lt. inl (eqb-true i 0 (first (i == 0) (ap (λ (t : Bool). (i == 0) || not t) (sym (lt-ltb i 32 lt)) ∙ e))))
      (λ ge. inr ge)
      (cases_lt i 32)
    where
      first : (t : Bool) → (t || false) ≡ true → t ≡ true
      first true e = refl
      first false e = e

  pub stand_apart : AreApart owner_rights (whole_home 0) slot_home 0 1 (owned_block 48 16 32) worked_slot
  stand_apart = record {
    bytes = λ i j lt lt' p q e. let le = ltb-false i 32 p in absurd (omega arith);
    places = λ i j lt lt' p q e. ⊎_elim (λ z. absurd (omega arith)) (λ le. absurd (omega arith)) (at_edge i p);
  }

  each : (b : ℕ) (y : MemoryBlock) → slice_get source b ≡ Some y → is_live y.life ≡ true → Stands owner_rights (frame_rights (frame_given given) (an_instance ∷ [])) homes goal b y
  each zero y at live =
      subst (λ (z : MemoryBlock). Stands owner_rights (frame_rights (frame_given given) (an_instance ∷ [])) homes goal 0 z) (same_some (owned_block 48 16 32) y at)
      (owned_stands (frame_given given) an_instance 48 32 refl refl (slot_home ∷ []) [] (omega arith) (omega arith))
  each (suc zero) y at live = subst (λ (z : MemoryBlock). Stands owner_rights (frame_rights (frame_given given) (an_instance ∷ [])) homes goal 1 z) (same_some worked_slot y at) slot_stands
  each (suc (suc b)) y at live = absurd (cc)

  apart : (b c : ℕ) (y z : MemoryBlock) → b ≢ c → slice_get source b ≡ Some y → slice_get source c ≡ Some z → is_live y.life ≡ true → is_live z.life ≡ true → (home_of homes b).block ≡ (home_of homes c).block → AreApart owner_rights (home_of homes b) (home_of homes c) b c y z
  apart zero zero y z ne at_b at_c live live' shared = absurd (ne refl)
  apart (suc zero) (suc zero) y z ne at_b at_c live live' shared = absurd (ne refl)
  apart zero (suc zero) y z ne at_b at_c live live' shared =
      subst (λ (p : MemoryBlock × MemoryBlock). AreApart owner_rights (whole_home 0) slot_home 0 1 p.0 p.1) (λ i. (same_some (owned_block 48 16 32) y at_b i, same_some worked_slot z at_c i)) stand_apart
  apart (suc zero) zero y z ne at_b at_c live live' shared =
      subst (λ (p : MemoryBlock × MemoryBlock). AreApart owner_rights slot_home (whole_home 0) 1 0 p.0 p.1) (λ i. (same_some worked_slot y at_b i, same_some (owned_block 48 16 32) z at_c i))
      (apart_turned owner_rights (whole_home 0) slot_home 0 1 (owned_block 48 16 32) worked_slot stand_apart)
  apart zero (suc (suc c)) y z ne at_b at_c live live' shared = absurd (cc)
  apart (suc zero) (suc (suc c)) y z ne at_b at_c live live' shared = absurd (cc)
  apart (suc (suc b)) c y z ne at_b at_c live live' shared = absurd (cc)

  pub slot_stands_in_frame : Embeds owner_rights (frame_rights (frame_given given) (an_instance ∷ [])) homes source goal
  slot_stands_in_frame = record { each = each; apart = apart }

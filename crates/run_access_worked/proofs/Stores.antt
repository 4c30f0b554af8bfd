-- A store into a slot of the source, and into its home in the target, where a cell stands beside it.
use Rattle.std.proofs.Common.{◌≡◌, ◌≢◌, ℕ, zero, suc, ◌+◌, ◌<◌, ◌≤◌, inl, inr, true, false, List, [], ◌∷◌, Some, refl, sym, ap, ◌∙◌, subst, arith}
use Rattle.std.specs.Prelude.{ℤ, pos, slice_get}
use Rattle.std.proofs.lemmas.List.{length-replicate}
use Rattle.run_access_worked.specs.Worked.{cell, line, line_after, line_before, ours, owners, seven, slot, slot_homes, storing, theirs, theirs_after}
use Rattle.run_laws_worked.specs.run_memory.Memory.{is_live, meets, owner_rights}
use Rattle.run_laws_worked.specs.run_memory.declared.block.Byte.{Byte}
use Rattle.run_laws_worked.specs.run_memory.declared.block.MemoryBlock.{MemoryBlock}
use Rattle.run_laws_worked.proofs.Frames.{blank_byte, from_start}
use Rattle.run_laws_worked.specs.ir_model.Ty.{Ty, array, int, named, ptr, structure, token}
use Rattle.run_laws_worked.specs.ir_model.declared.module.Function.{Function}
use Rattle.run_laws_worked.specs.ir_model.declared.module.Module.{Module}
use Rattle.run_laws_worked.specs.ir_model.declared.operand.Operand.{Operand}
use Rattle.run_laws_worked.proofs.run_laws.memory.Itself.{owner_rights_fit}
use Rattle.run_laws_worked.proofs.run_laws.memory.Written.{same_some}
use Rattle.run_laws_worked.specs.run_laws.memory.Pointers.{IsValue, home_of}
use Rattle.run_laws_worked.specs.run_laws.memory.Standing.{AreApart, Embeds, IsAlignment, Stands}
use Rattle.run_laws_worked.specs.run_step.Step.{AtInstr, Done, Work, action_of}
use Rattle.run_laws_worked.specs.run_step.Values.{literal}
use Rattle.run_laws_worked.proofs.run_laws.access.Done.{free_held}
use Rattle.run_laws_worked.proofs.run_laws.access.Touched.{free_stays}
use Rattle.run_laws_worked.specs.run_laws.access.Accessed.{accessed}
use Rattle.run_laws_worked.specs.run_laws.access.Changed.{IsFree, LeavesFree, home_block}
use Rattle.run_laws_worked.specs.run_laws.access.Lines.{Holds, Runs}
use Rattle.run_laws_worked.specs.run_laws.embedded.Related.{IsOperand}

abbrev m : List MemoryBlock
m = slot ∷ []

abbrev n : List MemoryBlock
n = cell ∷ slot ∷ []

slot_stands : Stands owner_rights owner_rights slot_homes n 0 slot
slot_stands = record {
  known = omega arith;
  block = slot;
  there = refl;
  live = refl;
  full = length-replicate 4 Byte.Undefined;
  whole = length-replicate 4 Byte.Undefined;
  fits = omega arith;
  small = omega arith;
  writable = λ e. e;
  allowed = record {
    opens = λ o len within e. e;
    aligned = λ o len align pos within free ok e. ap (λ (k : ℕ). meets slot k align) (from_start o) ∙ e;
    comparable = λ o within e. ap (λ (k : ℕ). owner_rights.is_comparable 0 slot k) (from_start o) ∙ e;
  };
  bytes = λ i lt op. blank_byte slot_homes slot 4 i _ refl lt;
}

pub slot_embeds : Embeds owner_rights owner_rights slot_homes m n
slot_embeds = record { each = each; apart = apart }
  where
    each : (b : ℕ) (y : MemoryBlock) → slice_get m b ≡ Some y → is_live y.life ≡ true → Stands owner_rights owner_rights slot_homes n b y
    each zero y at live = subst (λ (z : MemoryBlock). Stands owner_rights owner_rights slot_homes n 0 z) (same_some slot y at) slot_stands
    each (suc b) y at live = absurd (cc)

    apart : (b c : ℕ) (y z : MemoryBlock) → b ≢ c → slice_get m b ≡ Some y → slice_get m c ≡ Some z → is_live y.life ≡ true → is_live z.life ≡ true → (home_of slot_homes b).block ≡ (home_of slot_homes c).block → AreApart owner_rights (home_of slot_homes b) (home_of slot_homes c) b c y z
    apart zero zero y z ne at_b at_c live live' shared = absurd (ne refl)
    apart zero (suc c) y z ne at_b at_c live live' shared = absurd (cc)
    apart (suc b) c y z ne at_b at_c live live' shared = absurd (cc)

-- nothing of the source stands in the cell
cell_free : (i : ℕ) → IsFree owner_rights slot_homes m 0 i
cell_free i = record { each = each }
  where
    each : (b j : ℕ) (z : MemoryBlock) → slice_get m b ≡ Some z → is_live z.life ≡ true → j < z.size → owner_rights.is_closed b z j 1 ≡ false → home_block slot_homes b ≡ 0 → (home_of slot_homes b).offset + j ≢ i
    each zero j z at live lt op same = absurd (omega arith)
    each (suc b) j z at live lt op same = absurd (cc)

at_zero : (align : ℕ) → IsAlignment align → align ≤ 4 → meets cell 0 align ≡ true
at_zero align (inl is) le = subst (λ (k : ℕ). meets cell 0 k ≡ true) (sym is) refl
at_zero align (inr (inl is)) le = subst (λ (k : ℕ). meets cell 0 k ≡ true) (sym is) refl
at_zero align (inr (inr (inl is))) le = subst (λ (k : ℕ). meets cell 0 k ≡ true) (sym is) refl
at_zero align (inr (inr (inr (inl is)))) le = absurd (omega arith)
at_zero align (inr (inr (inr (inr is)))) le = absurd (omega arith)

pub cell_holds : Holds owner_rights n 0 0 4 seven
cell_holds = record {
  block = cell;
  there = refl;
  live = refl;
  writable = refl;
  whole = refl;
  within = omega arith;
  holds = refl;
  unclosed = refl;
  aligned = at_zero;
}

literal_itself : (ty : Ty) (z : ℤ) → IsValue slot_homes (literal ty z) (literal ty z)
literal_itself (int w) z = refl
literal_itself ptr z = tt
literal_itself token z = tt
literal_itself (array k t) z = tt
literal_itself (structure ts) z = tt
literal_itself (named k) z = tt

module _ (code : Module) (answers : List ℤ) (f : Function) where
  pub source_accesses : accessed (owners code answers f) ours (AtInstr storing) ≡ 0 ∷ []
  source_accesses = refl

  pub store_done : action_of (owners code answers f) theirs (AtInstr storing) ≡ Done theirs_after
  store_done = refl

  pub store_accesses : accessed (owners code answers f) theirs (AtInstr storing) ≡ 1 ∷ []
  store_accesses = refl

  number_stands : IsOperand slot_homes (owners code answers f) (owners code answers f) ours.values theirs.values (Operand.Number (pos 5))
  number_stands = record { here = λ ty. literal_itself ty (pos 5); nowhere = λ ty. refl }

  address_stands : IsOperand slot_homes (owners code answers f) (owners code answers f) ours.values theirs.values (Operand.Local 0)
  address_stands = record { here = λ ty. (refl, refl); nowhere = λ ty. refl }

  store_leaves : LeavesFree owner_rights slot_homes m n (action_of (owners code answers f) theirs (AtInstr storing))
  store_leaves = free_stays slot_homes (owners code answers f) (owners code answers f) ours theirs (AtInstr storing) owner_rights_fit slot_embeds tt (number_stands, (address_stands, tt)) tt

  pub cell_stays : (x : Work) → action_of (owners code answers f) theirs (AtInstr storing) ≡ Done x → Holds owner_rights x.world.memory 0 0 4 seven
  cell_stays x e = free_held owner_rights owner_rights slot_homes m n x.world.memory 0 0 4 seven owner_rights_fit (subst (LeavesFree owner_rights slot_homes m n) e store_leaves) cell_holds (λ i lt. cell_free (0 + i))

  pub line_runs : Runs (owners code answers f) line line_before line_after
  line_runs = (_, (refl, (_, (refl, refl))))

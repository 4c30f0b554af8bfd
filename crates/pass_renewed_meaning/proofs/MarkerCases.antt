-- Lifetime markers: of a slot that may be made anew the second run does nothing, and of any other what the first does.
use Rattle.std.proofs.Common.{◌≡◌, ℕ, ◌⊎◌, inl, inr, Bool, true, false, List, Option, Some, None, Result, Ok, refl, sym, ap}
use Rattle.std.proofs.Common.{◌∙◌, subst, if◌then◌else◌}
use Rattle.std.proofs.lemmas.Bool.{false≢true}
use Rattle.run_types.specs.ir_base.declared.cause.Cause.{Cause}
use Rattle.run_types.specs.ir_model.Names.{function_at}
use Rattle.run_types.specs.ir_model.Ty.{Ty}
use Rattle.run_types.specs.ir_model.declared.instr.Instr.{Instr}
use Rattle.run_types.specs.ir_model.declared.operand.Arg.{Arg}
use Rattle.run_types.specs.ir_model.declared.operand.Callee.{Callee}
use Rattle.run_types.specs.ir_model.declared.operand.Intrinsic.{Intrinsic}
use Rattle.run_types.specs.run_source.State.{next, settled, work_of}
use Rattle.run_types.specs.run_step.Step.{AtInstr, Work, block_of, fetch, on_block, set_memory}
use Rattle.run_types.specs.run_step.Values.{arg_values, nth}
use Rattle.run_types.specs.run_memory.Memory.{end, start}
use Rattle.pass_renewed_meaning.proofs.Here.{Here, IsCase, keeps, left_asleep, none_below, other, second_action}
use Rattle.pass_renewed_meaning.proofs.OneStep.{IsOneStep}
use Rattle.pass_renewed_meaning.proofs.Points.{ordinary}
use Rattle.pass_renewed_meaning.specs.Followed.{Goes}
use Rattle.pass_renewed_meaning.specs.Rules.{IsMarked, Setting}
use Rattle.pass_renewed_meaning.specs.Runs.{first_given, second_given}
use Rattle.run_types.proofs.pass_renewed_proof.Ending.{end_beside}
use Rattle.run_types.proofs.pass_renewed_proof.OtherMarkers.{other_ends, other_starts}
use Rattle.run_types.proofs.pass_renewed_proof.Starting.{start_beside}
use Rattle.run_types.specs.pass_renewed_proof.Beside.{IsBeside, place_in}
use Rattle.run_types.specs.pass_renewed_proof.Making.{IsMarkingOther, IsMarkingSlot}
use Rattle.run_types.specs.pass_renewed_proof.Renewed.{is_flagged, is_idle, renewed_act}

same_ok : {A : Type 0} {a b : A} → ◌≡◌ {A = Result A Cause} (Ok a) (Ok b) → a ≡ b
same_ok e = cc

module _ (c : Setting) (x : Here c) (result : Option ℕ) (must_tail : Bool) (ty : Option Ty) (args : List Arg) where
  abbrev instr : Intrinsic → Instr
  instr j = Instr.Call result must_tail ty (Callee.Intrinsic j) args

  abbrev Stands : Intrinsic → Type 0
  Stands j = fetch (function_at c.code x.s.top.func) x.s.top.block x.s.top.at ≡ AtInstr (instr j)

  abbrev IsMarker : Intrinsic → Type 0
  IsMarker j = (j ≡ Intrinsic.LifetimeStart) ⊎ (j ≡ Intrinsic.LifetimeEnd)

  marked : (j : Intrinsic) → IsMarker j → Stands j → IsMarked (function_at c.code x.s.top.func) args
  marked j is here = (x.all.steps x.s.top.func).marked x.s.top.block x.s.top.at result must_tail ty j args here is

  -- ---- start

  start_slot : Stands Intrinsic.LifetimeStart → (k : IsMarked (function_at c.code x.s.top.func) args)
      → c.flags x.s.top.func k.slot ≡ true → IsMarkingSlot c.code c.flags x.s.top Intrinsic.LifetimeStart k.slot result
      must_tail ty args
  start_slot here k flagged = record {
    place = ordinary c.code (function_at c.code x.s.top.func) (c.flags x.s.top.func) (c.roots x.s.top.func) (keeps c x
        x.s.top.func) (place_in x.s.top) (instr Intrinsic.LifetimeStart) here refl refl;
    here = here;
    takes = k.takes;
    flagged = flagged;
  }

  start_other : Stands Intrinsic.LifetimeStart → (k : IsMarked (function_at c.code x.s.top.func) args)
      → c.flags x.s.top.func k.slot ≡ false → IsMarkingOther c.code c.flags c.roots x.s.top Intrinsic.LifetimeStart k.slot
      result must_tail ty args
  start_other here k off = record {
    place = ordinary c.code (function_at c.code x.s.top.func) (c.flags x.s.top.func) (c.roots x.s.top.func) (keeps c x
        x.s.top.func) (place_in x.s.top) (instr Intrinsic.LifetimeStart) here refl refl;
    here = here;
    takes = k.takes;
    other = record { made = k.made; off = off; no_part = on (c.roots x.s.top.func k.slot) refl };
  }
    where
      on : (o : Option ℕ) → c.roots x.s.top.func k.slot ≡ o → c.roots x.s.top.func k.slot ≡ None
      on None e = e
      on (Some a) e =
          let rules = keeps c x x.s.top.func in
          let same : k.slot ≡ a = rules.markers Intrinsic.LifetimeStart k.slot a (place_in x.s.top) (inl refl) (record {
            instr = instr Intrinsic.LifetimeStart;
            stands = here;
            is = refl;
            takes = k.takes;
          }) e in
          absurd (false≢true (sym off ∙ ap (c.flags x.s.top.func) same ∙ (rules.rooted k.slot a e).0))

  abbrev starts : Work
  starts = set_memory (work_of x.s) (on_block start x.s.world.memory (block_of (nth (arg_values c.code x.s.top.values args)
      1)))

  pub start_case : IsCase c x (AtInstr (instr Intrinsic.LifetimeStart))
  start_case here after acts = on (c.flags x.s.top.func k.slot) refl
    where
      k : IsMarked (function_at c.code x.s.top.func) args
      k = marked Intrinsic.LifetimeStart (inl refl) here

      idle : (u : Bool) → c.flags x.s.top.func k.slot ≡ u → is_idle (c.flags x.s.top.func) (AtInstr (instr
          Intrinsic.LifetimeStart)) ≡ u
      idle u e = ap (is_flagged (c.flags x.s.top.func)) k.takes ∙ e

      on : (u : Bool) → c.flags x.s.top.func k.slot ≡ u → IsOneStep (second_given c) (other c x) (AtInstr (instr
          Intrinsic.LifetimeStart)) (first_given c) after
      on true e = record {
        other = next (other c x);
        goes = ap (λ u. if u then Ok (next (other c x)) else renewed_act (second_given c) (other c x) (second_action c x
            (AtInstr (instr Intrinsic.LifetimeStart)))) (idle true e);
        related = Goes (subst (λ z. IsBeside c.code c.flags c.roots z (next (other c x))) (same_ok acts) (start_beside c.code
            c.flags c.roots (keeps c x) x.s (other c x) x.beside k.slot result must_tail ty args (start_slot here k e)
            (none_below c x) (left_asleep c x) c.answers starts refl));
      }
      on false e =
          let r = other_starts c.code c.flags c.roots c.answers x.s (other c x) x.beside k.slot result must_tail ty args
          (start_other here k e) starts refl in
          record {
            other = settled (other c x) r.0;
            goes = ap (λ u. if u then Ok (next (other c x)) else renewed_act (second_given c) (other c x) (second_action c x
                (AtInstr (instr Intrinsic.LifetimeStart)))) (idle false e) ∙ ap (renewed_act (second_given c) (other c x)) r.1;
            related = Goes (subst (λ z. IsBeside c.code c.flags c.roots z (settled (other c x) r.0)) (same_ok acts) r.2);
          }

  -- ---- end

  end_slot : Stands Intrinsic.LifetimeEnd → (k : IsMarked (function_at c.code x.s.top.func) args)
      → c.flags x.s.top.func k.slot ≡ true → IsMarkingSlot c.code c.flags x.s.top Intrinsic.LifetimeEnd k.slot result
      must_tail ty args
  end_slot here k flagged = record {
    place = ordinary c.code (function_at c.code x.s.top.func) (c.flags x.s.top.func) (c.roots x.s.top.func) (keeps c x
        x.s.top.func) (place_in x.s.top) (instr Intrinsic.LifetimeEnd) here refl refl;
    here = here;
    takes = k.takes;
    flagged = flagged;
  }

  end_other : Stands Intrinsic.LifetimeEnd → (k : IsMarked (function_at c.code x.s.top.func) args)
      → c.flags x.s.top.func k.slot ≡ false → IsMarkingOther c.code c.flags c.roots x.s.top Intrinsic.LifetimeEnd k.slot
      result must_tail ty args
  end_other here k off = record {
    place = ordinary c.code (function_at c.code x.s.top.func) (c.flags x.s.top.func) (c.roots x.s.top.func) (keeps c x
        x.s.top.func) (place_in x.s.top) (instr Intrinsic.LifetimeEnd) here refl refl;
    here = here;
    takes = k.takes;
    other = record { made = k.made; off = off; no_part = on (c.roots x.s.top.func k.slot) refl };
  }
    where
      on : (o : Option ℕ) → c.roots x.s.top.func k.slot ≡ o → c.roots x.s.top.func k.slot ≡ None
      on None e = e
      on (Some a) e =
          let rules = keeps c x x.s.top.func in
          let same : k.slot ≡ a = rules.markers Intrinsic.LifetimeEnd k.slot a (place_in x.s.top) (inr refl) (record {
            instr = instr Intrinsic.LifetimeEnd;
            stands = here;
            is = refl;
            takes = k.takes;
          }) e in
          absurd (false≢true (sym off ∙ ap (c.flags x.s.top.func) same ∙ (rules.rooted k.slot a e).0))

  abbrev ends : Work
  ends = set_memory (work_of x.s) (on_block end x.s.world.memory (block_of (nth (arg_values c.code x.s.top.values args)
      1)))

  pub end_case : IsCase c x (AtInstr (instr Intrinsic.LifetimeEnd))
  end_case here after acts = on (c.flags x.s.top.func k.slot) refl
    where
      k : IsMarked (function_at c.code x.s.top.func) args
      k = marked Intrinsic.LifetimeEnd (inr refl) here

      idle : (u : Bool) → c.flags x.s.top.func k.slot ≡ u → is_idle (c.flags x.s.top.func) (AtInstr (instr
          Intrinsic.LifetimeEnd)) ≡ u
      idle u e = ap (is_flagged (c.flags x.s.top.func)) k.takes ∙ e

      on : (u : Bool) → c.flags x.s.top.func k.slot ≡ u → IsOneStep (second_given c) (other c x) (AtInstr (instr
          Intrinsic.LifetimeEnd)) (first_given c) after
      on true e = record {
        other = next (other c x);
        goes = ap (λ u. if u then Ok (next (other c x)) else renewed_act (second_given c) (other c x) (second_action c x
            (AtInstr (instr Intrinsic.LifetimeEnd)))) (idle true e);
        related = Goes (subst (λ z. IsBeside c.code c.flags c.roots z (next (other c x))) (same_ok acts) (end_beside c.code
            c.flags c.roots (keeps c x) x.s (other c x) x.beside k.slot result must_tail ty args (end_slot here k e)
            c.answers ends refl));
      }
      on false e =
          let r = other_ends c.code c.flags c.roots c.answers x.s (other c x) x.beside k.slot result must_tail ty args
          (end_other here k e) ends refl in
          record {
            other = settled (other c x) r.0;
            goes = ap (λ u. if u then Ok (next (other c x)) else renewed_act (second_given c) (other c x) (second_action c x
                (AtInstr (instr Intrinsic.LifetimeEnd)))) (idle false e) ∙ ap (renewed_act (second_given c) (other c x)) r.1;
            related = Goes (subst (λ z. IsBeside c.code c.flags c.roots z (settled (other c x) r.0)) (same_ok acts) r.2);
          }

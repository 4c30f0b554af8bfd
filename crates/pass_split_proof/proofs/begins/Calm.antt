-- Straight lines of a part that show nothing: addresses and stores.
use Rattle.std.proofs.Common.{◌≡◌, ℕ, zero, suc, ◌≤◌, Bool, true, false, List, [], ◌∷◌, length, Result, Ok, Err, refl, sym, ap, ◌∙◌, subst, arith, if◌then◌else◌}
use Rattle.pass_proofs.specs.ir_base.declared.cause.Cause.{Cause}
use Rattle.pass_proofs.specs.ir_base.declared.outcome.Outcome.{Outcome}
use Rattle.pass_proofs.specs.ir_model.Ty.{ptr}
use Rattle.pass_proofs.specs.ir_model.declared.instr.Instr.{Instr}
use Rattle.pass_split_proof.proofs.steps.Settled.{plain_does}
use Rattle.pass_proofs.specs.run_agreement.Machines.{iterate}
use Rattle.pass_proofs.specs.run_laws.access.Lines.{Runs, StandAt}
use Rattle.pass_proofs.specs.run_laws.changed.Changed.{Each}
use Rattle.pass_proofs.specs.run_memory.Memory.{store}
use Rattle.pass_proofs.specs.run_memory.declared.block.MemoryBlock.{MemoryBlock}
use Rattle.pass_proofs.specs.run_memory.declared.pointer.Value.{Value}
use Rattle.run_access_worked.specs.run_plain.Plain.{PlainGiven, plain_context, plain_function, plain_settled, plain_step, plain_work}
use Rattle.run_access_worked.specs.run_plain.declared.state.PlainState.{PlainState}
use Rattle.pass_proofs.specs.run_step.Step.{Action, AtInstr, Context, Done, Stuck, Work, done, if_alignment, instr_action, is_alignment, set_memory, set_value, value_at}
use Rattle.pass_proofs.specs.run_step.Values.{access_of, address, arg_value, distance, element, indices_of, stored}

abbrev pub is_calm : Instr → Bool
is_calm (Instr.Gep name inbounds ty base indices) = true
is_calm (Instr.Store arg p align) = true
is_calm i = false

-- another work that shows the same
abbrev pub ShowsSame : Work → Work → Type 0
ShowsSame w v = (v.world.events ≡ w.world.events) × (v.world.allocs ≡ w.world.allocs)

shows_as : (w u v : Work) → u ≡ v → ShowsSame w u → ShowsSame w v
shows_as w u v e shows = subst (ShowsSame w) e shows

by_alignment : (align : ℕ) (a : Action) (v : Work) → if_alignment align a ≡ Done v → a ≡ Done v
by_alignment align a v e = on (is_alignment align) refl
  where
    on : (b : Bool) → is_alignment align ≡ b → a ≡ Done v
    on true h = sym (ap (λ (b : Bool). if b then a else Stuck Cause.Align) h) ∙ e
    on false h = absurd (stuck (sym (ap (λ (b : Bool). if b then a else Stuck Cause.Align) h) ∙ e))
      where
        stuck : Stuck Cause.Align ≡ Done v → ⊥
        stuck k = cc

stored_shows : (w v : Work) (r : Result (List MemoryBlock) Cause) → done (set_memory w) r ≡ Done v → ShowsSame w v
stored_shows w v (Err c) e = absurd (cc)
stored_shows w v (Ok m) e = let same : set_memory w m ≡ v = cc in shows_as w (set_memory w m) v same (refl, refl)

named_shows : (w v : Work) (name : ℕ) (u : Value) → Done (set_value w name u) ≡ Done v → ShowsSame w v
named_shows w v name u e
    = let same : set_value w name u ≡ v = cc in shows_as w (set_value w name u) v same (refl, refl)

pub calm_shows : (c : Context) (w v : Work) (i : Instr) → is_calm i ≡ true → instr_action c w i ≡ Done v
    → ShowsSame w v
calm_shows c w v (Instr.Gep name inbounds ty base indices) calm e = named_shows w v name
    (element w.world.memory inbounds (value_at c w ptr base) (distance c.code ty (indices_of c.code w.values indices))) e
calm_shows c w v (Instr.Store arg p align) calm e = stored_shows w v
    (store c.rights w.world.memory (address (value_at c w ptr p)) (stored (access_of arg.ty)
    (arg_value c.code w.values arg)) (access_of arg.ty) align) (by_alignment align _ v e)
calm_shows c w v _ calm e = absurd (cc)

-- a state of the parts' run that goes on and shows what another showed
abbrev pub IsQuiet : PlainState → PlainState → Type 0
IsQuiet t u = (u.outcome ≡ Outcome.Running) × ((u.world.events ≡ t.world.events) × (u.world.allocs ≡ t.world.allocs))

pub line_quiet : (h : PlainGiven) (line : List Instr) (t : PlainState) (x : Work) → t.outcome ≡ Outcome.Running
    → StandAt (plain_function h t) t.top.block t.top.at line → Runs (plain_context h t) line (plain_work t) x
    → Each (λ (i : Instr). is_calm i ≡ true) line → (n : ℕ) → n ≤ length line
    → IsQuiet t (iterate (plain_step h) n t)
line_quiet h line t x runs stand does calm zero le = (runs, (refl, refl))
line_quiet h [] t x runs stand does calm (suc n) le = absurd (none n le)
  where
    none : (n : ℕ) → suc n ≤ 0 → ⊥
    none n le = omega arith
line_quiet h (i ∷ is) t x runs stand does calm (suc n) le =
    let step : plain_step h t ≡ plain_settled t does.0 = plain_does h t (AtInstr i) (Done does.0) runs stand.0
    does.1.0 in
    let shows = calm_shows (plain_context h t) (plain_work t) does.0 i calm.0 does.1.0 in
    let rest = line_quiet h is (plain_settled t does.0) x runs stand.1 does.1.1 calm.1 n (less n (length is) le) in
    subst (IsQuiet t) (sym (ap (iterate (plain_step h) n) step))
    (rest.0, (rest.1.0 ∙ shows.0, rest.1.1 ∙ shows.1))
  where
    less : (n k : ℕ) → suc n ≤ suc k → n ≤ k
    less n k le = omega arith

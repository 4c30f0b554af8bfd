-- The framed run goes on where the part stays: the states are related, and fewer instructions are ahead.
use Rattle.std.proofs.Common.{◌≡◌, ℕ, ◌+◌, ◌-◌, ◌<◌, Bool, true, false, List, length, refl, sym, ap, subst, arith, if◌then◌else◌, ◌==◌}
use Rattle.std.specs.Prelude.{slice_get}
use Rattle.std.proofs.lemmas.Bool.{eq-eqb, ne_eqb}
use Rattle.std.proofs.lemmas.Option.{slice_get_within}
use Rattle.pass_proofs.proofs.ir_laws.paths.renamed.Uses.{stands_in}
use Rattle.pass_proofs.specs.ir_model.Names.{function_at}
use Rattle.pass_proofs.specs.ir_model.declared.instr.Instr.{Instr}
use Rattle.pass_proofs.specs.ir_model.declared.module.Function.{Function}
use Rattle.pass_proofs.specs.ir_paths.Windows.{end_block}
use Rattle.pass_split_proof.proofs.states.Advanced.{advanced}
use Rattle.pass_split_proof.proofs.steps.Branches.{left_all, left_beside, left_frames}
use Rattle.pass_split_proof.specs.states.Activations.{IsPlaced, is_entering}
use Rattle.pass_split_proof.specs.states.Going.{goes_to, moved_to}
use Rattle.pass_split_proof.specs.states.Memories.{homes_of}
use Rattle.pass_split_proof.specs.states.Related.{AreRelated, ahead_in, instrs_of, steps_ahead}
use Rattle.pass_split_proof.specs.states.Values.{AreValuesOf}
use Rattle.pass_split_proof.specs.steps.Branches.{WasLeft}
use Rattle.pass_proofs.proofs.rule_laws.rules.sources.Places.{instr_there}
use Rattle.pass_proofs.specs.run_framed.Framed.{FramedGiven}
use Rattle.run_access_worked.specs.run_plain.Plain.{PlainGiven, plain_work}
use Rattle.run_access_worked.specs.run_plain.declared.state.PlainState.{PlainState}
use Rattle.pass_proofs.specs.run_source.declared.state.Instance.{Instance}
use Rattle.pass_proofs.specs.run_source.declared.state.State.{State}
use Rattle.pass_proofs.specs.run_step.Step.{AtInstr, fetch}
use Rattle.pass_proofs.specs.run_step.Values.{Env}

module _ (g : FramedGiven) (h : PlainGiven) (s : State) (t : PlainState) (r : AreRelated g h s t) (values : Env)
    (ys : List Instance) (block at : ℕ) (left : Bool) where
  pub stays_related : is_entering s.top.mode ≡ false → WasLeft s.instances ys
      → AreValuesOf (function_at g.given.code s.top.func) (homes_of s.world.memory) values t.top.values
      → length values ≡ length s.top.values
      → IsPlaced r.top.shape r.top.part (function_at g.given.code s.top.func) (function_at h.code t.top.func)
      (moved_to s.top block at values left) t.top s.top.mode
      → AreRelated g h (goes_to s s.world ys block at values left) t
  stays_related settled was stand whole place = advanced g h s t r (record { world = s.world; values = values })
      (plain_work t) ys block at t.top.block t.top.at left settled
      (record {
        memory = left_beside g s.world.memory t.world.memory s.instances ys was r.world.memory;
        events = r.world.events;
        answers = r.world.answers;
        allocs = r.world.allocs;
      })
      (left_all g s.world.memory t.world.memory s.instances ys was r.frames) (left_frames s.instances ys was)
      (omega arith) (record { each = λ b e. refl }) stand whole refl refl place

-- ---- what is ahead

-- an instruction behind another one
less_ahead : (e l at : ℕ) → at < l → e + (l - (at + 1)) < e + (l - at)
less_ahead e l at lt = omega arith

pub one_less_ahead : (f : Function) (block at : ℕ) (i : Instr) → fetch f block at ≡ AtInstr i
    → steps_ahead f block (at + 1) < steps_ahead f block at
one_less_ahead f block at i here =
    let y = stands_in f (record { block = block; at = at }) i (instr_there f block at i here) in
    less_ahead (if block == end_block f then 0 else 1 + length (instrs_of (slice_get f.blocks (end_block f))))
    (length (instrs_of (slice_get f.blocks block))) at
    (subst (λ (l : ℕ). at < l) (ap length (sym (ap instrs_of y.got))) (slice_get_within y.block.instrs at i y.stands))

-- the end's block behind another one
less_at_end : (c d : Bool) (l a : ℕ) → c ≡ true → d ≡ false
    → (if c then 0 else 1 + l) + (l - 0) < (if d then 0 else 1 + l) + a
less_at_end true false l a e h = omega arith
less_at_end true true l a e h = absurd (cc)
less_at_end false d l a e h = absurd (cc)

pub end_less_ahead : (f : Function) (block at end : ℕ) → end ≡ end_block f → (block ≡ end_block f → ⊥)
    → steps_ahead f end 0 < steps_ahead f block at
end_less_ahead f block at end is ne =
    subst (λ (k : ℕ). steps_ahead f k 0 < steps_ahead f block at) (sym is)
    (less_at_end (end_block f == end_block f) (block == end_block f)
    (length (instrs_of (slice_get f.blocks (end_block f)))) (ahead_in (instrs_of (slice_get f.blocks block)) at)
    (eq-eqb (end_block f) (end_block f) refl) (ne_eqb block (end_block f) ne))

-- Both runs go on behind an instruction that sets no name.
use Rattle.std.proofs.Common.{◌≡◌, ◌≢◌, ◌+◌, ◌≤◌, inr, ℕ, zero, suc, Bool, true, false, List, length, refl, sym, ap, ◌∙◌, subst, arith, ◌==◌}
use Rattle.std.specs.Prelude.{None, Option, Some, slice_get}
use Rattle.pass_elide.specs.Elided.{function_frames}
use Rattle.pass_elide_proof.proofs.EdgeBare.{held_same}
use Rattle.pass_elide_proof.proofs.EdgeValues.{all_made, each_kept}
use Rattle.pass_elide_proof.proofs.TopMoved.{SameHeld, moved}
use Rattle.pass_elide_proof.specs.Both.{standing_at}
use Rattle.pass_elide_proof.specs.Elision.{Elision, function_in, rooms}
use Rattle.pass_elide_proof.specs.Match.{AreElided, AreReleased, Beside, HasAllocas, IsAt, held_name, is_given_mode, sides, was_given}
use Rattle.pass_elide_proof.specs.Places.{Rooms, allocas_ahead, front_at, instrs_in, instrs_of, own_at}
use Rattle.pass_proofs.specs.ir_model.declared.instr.Instr.{Instr}
use Rattle.pass_proofs.specs.ir_model.declared.module.Block.{Block}
use Rattle.pass_proofs.specs.ir_model.declared.module.Function.{Function}
use Rattle.pass_proofs.specs.run_source.State.{next}
use Rattle.pass_proofs.specs.run_source.declared.state.Activation.{Activation}
use Rattle.pass_proofs.specs.run_source.declared.state.State.{State}
use Rattle.pass_proofs.specs.run_step.Step.{AtInstr, fetch, fetch_in, fetch_or}

-- ---- places

same_instr : (i j : Instr) → AtInstr i ≡ AtInstr j → Some i ≡ Some j
same_instr i j e = cc

-- an instruction that is fetched stands in its block
pub instr_there : (f : Function) (block at : ℕ) (i : Instr) → fetch f block at ≡ AtInstr i
    → slice_get (instrs_of f block) at ≡ Some i
instr_there f block at i e = on (slice_get f.blocks block) e
  where
    at_instr : (o : Option Instr) (last : Bool) (b : Block) → fetch_or o last b.term ≡ AtInstr i → o ≡ Some i
    at_instr (Some j) last b h = same_instr j i h
    at_instr None true b h = absurd (cc)
    at_instr None false b h = absurd (cc)

    on : (o : Option Block) → fetch_in o at ≡ AtInstr i → slice_get (instrs_in o) at ≡ Some i
    on None h = absurd (cc)
    on (Some b) h = at_instr (slice_get b.instrs at) (at == length b.instrs) b h

pub front_next : (room : Rooms) (f : Function) (block at n : ℕ) → n ≡ at + 1
    → front_at room f block n ≡ own_at room f block at + 1
front_next room f block at zero e = absurd (omega (arith, e))
front_next room f block at (suc n) e =
    let same : n ≡ at = omega (arith, e) in ap (λ (k : ℕ). own_at room f block k + 1) same

-- ---- the states

-- the second run stands at its own place, and its allocas have been made
pub record StandsReady (e : Elision) (a c : Activation) : Type 0 where
  pub beside : c.block ≡ a.block
  pub stands : c.at ≡ own_at (rooms e a.func) (function_in e a.func) a.block a.at
  pub made : length c.slots ≡ length a.slots + length (allocas_ahead (rooms e a.func) (function_in e a.func))
  pub holds : (e.shape a.func).holds a.block (a.at + 1) ≡ (e.shape a.func).holds a.block a.at

-- but for that it may stand anywhere
module _ (e : Elision) (s t : State) (front : ℕ) (r : AreElided e s (standing_at t front))
    (at : StandsReady e s.top t.top) where
  abbrev w : State
  w = standing_at t front

  abbrev f : ℕ
  f = s.top.func

  abbrev a : Activation
  a = record s.top { at = s.top.at + 1 }

  abbrev c : Activation
  c = record t.top { at = t.top.at + 1 }

  place : IsAt e r.homes (was_given (sides s t) t.top) a c
  place =
      Beside at.beside
      (ap (λ (n : ℕ). n + 1) at.stands
      ∙ sym (front_next (rooms e f) (function_in e f) s.top.block s.top.at (s.top.at + 1) refl))

  still : AreReleased (e.shape f) (sides s t) s.top (standing_at t front).top → AreReleased (e.shape f) (sides s t) a c
  still h = record { freed = h.freed; tested = h.tested }

  allocas : HasAllocas e r.homes r.hides (sides s t) a c r.top.own
  allocas =
      let h = all_made e s w r at.made in
      inr (
        each_kept r.homes r.hides (sides s t) (standing_at t front).top c r.top.own (length (function_in e f).names) (λ v le. refl)
            (length (function_in e f).names) (function_frames (rooms e f) (function_in e f)) (omega arith) h.0,
        h.1,
      )

  held : (mode : Bool) → SameHeld s.top.values s.top.values (held_name e mode s.top) (held_name e mode a)
  held true =
      held_same s.top.values ((e.shape f).holds s.top.block s.top.at)
      ((e.shape f).holds s.top.block (s.top.at + 1)) at.holds
  held false = tt

  pub both_go : AreElided e (next s) (next t)
  both_go =
      moved e s w r s.top.block (s.top.at + 1) s.top.values s.top.has_left t.top.block (t.top.at + 1) t.top.values
      t.top.has_left r.top.has_left place (record { each = r.top.values.each; room = r.top.values.room }) r.top.asked
      (λ given. still (r.top.released given)) allocas (held (is_given_mode t.top.mode))

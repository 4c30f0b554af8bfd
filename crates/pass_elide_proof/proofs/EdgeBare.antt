-- Where a coroutine gives no frames: states whose topmost activations went on to blocks without phis, or wait.
use Rattle.std.proofs.Common.{◌≡◌, ◌+◌, inl, inr, ℕ, Bool, true, false, List, [], length, length-append, map, refl, sym, ap, ◌∙◌, subst, arith}
use Rattle.std.specs.Option.{option_map_or}
use Rattle.std.specs.Prelude.{None, Option, Some, if◌then◌else◌}
use Rattle.pass_elide_proof.proofs.EdgeValues.{map_long}
use Rattle.pass_elide_proof.proofs.EdgeEntered.{entered, enters}
use Rattle.pass_elide_proof.proofs.GivingNone.{no_allocas, own_same}
use Rattle.pass_elide_proof.proofs.PhiValues.{held_on}
use Rattle.pass_elide_proof.proofs.TopMoved.{SameHeld, gone_on, moved}
use Rattle.pass_elide_proof.specs.Edges.{GivesNone, IsEntering, IsHeldOn, label_from, phis_at}
use Rattle.pass_elide_proof.specs.Elision.{Elision, elided, framed, function_in, rooms}
use Rattle.pass_elide_proof.specs.Match.{AreElided, AreReleased, HasAlloca, HasAllocas, IsAt, IsAtEnd, Sides, Skips, held_name, instance_in, is_given_mode, sides, was_given}
use Rattle.pass_elide_proof.specs.Places.{allocas_ahead, instrs_of}
use Rattle.pass_proofs.specs.ir_model.Names.{position_of}
use Rattle.pass_proofs.specs.ir_model.declared.instr.Instr.{Instr}
use Rattle.pass_proofs.specs.ir_model.declared.instr.Phi.{Phi}
use Rattle.pass_proofs.specs.ir_model.declared.instr.Terminator.{Terminator}
use Rattle.pass_proofs.specs.ir_model.declared.operand.Operand.{Operand}
use Rattle.pass_proofs.specs.run_framed.Framed.{framed_step, is_given}
use Rattle.pass_proofs.specs.run_laws.changed.Changed.{Each}
use Rattle.pass_proofs.specs.run_laws.embedded.Deaths.{moved_slot}
use Rattle.pass_proofs.specs.run_source.declared.state.Activation.{Activation}
use Rattle.pass_proofs.specs.run_source.declared.state.State.{State}
use Rattle.pass_proofs.specs.run_step.Step.{AtTerm, fetch, phi_values, with_all}
use Rattle.pass_proofs.specs.run_step.Values.{Env, truth_value, value_in}
use Rattle.pass_proofs.specs.run_step.declared.world.Slot.{Slot}

-- a given ramp is one whose frame was given
pub was_ramp : (d : Sides) (c : Activation) → is_given_mode c.mode ≡ true → was_given d c ≡ true
was_ramp d c given =
    ap (λ (b : Bool). if b then true else option_map_or (is_given d.other) (instance_in d.second c.instance) false)
    given

-- ---- names of what is held, where no value is set

held_itself : (env : Env) (o : Option ℕ) → SameHeld env env o o
held_itself env None = tt
held_itself env (Some v) = refl

pub held_same : (env : Env) (o q : Option ℕ) → q ≡ o → SameHeld env env o q
held_same env o q is = subst (λ (x : Option ℕ). SameHeld env env o x) (sym is) (held_itself env o)

-- what is held on an edge to a block without phis
pub held_bare : (e : Elision) (s : State) (to : ℕ) → phis_at (function_in e s.top.func) to ≡ [] → (mode : Bool)
    → (mode ≡ true → IsHeldOn e s to)
    → SameHeld s.top.values s.top.values (held_name e mode s.top)
    (held_name e mode (record s.top { block = to; at = 0 }))
held_bare e s to bare false h = tt
held_bare e s to bare true h =
    subst (λ (ps : List Phi). SameHeld s.top.values (with_all s.top.values (phi_values e.code s.top.values
    (label_from (function_in e s.top.func) s.top.block) ps)) ((e.shape s.top.func).holds s.top.block s.top.at)
    ((e.shape s.top.func).holds to 0)) bare
    (held_on e.code s.top.values (label_from (function_in e s.top.func) s.top.block)
    (phis_at (function_in e s.top.func) to) ((e.shape s.top.func).holds s.top.block s.top.at)
    ((e.shape s.top.func).holds to 0) (h refl))

-- ---- steps to blocks without phis

pub enters_bare : (e : Elision) (s : State) (label block : ℕ) → IsEntering (framed e) s label
    → position_of (function_in e s.top.func) label ≡ block → phis_at (function_in e s.top.func) block ≡ []
    → framed_step (framed e) s ≡ record s { top = record s.top { block = block; at = 0 } }
enters_bare e s label block h leads bare =
    entered (framed e) s label h
    ∙ ((λ i. record s {
      top = record s.top {
        block = leads i;
        at = 0;
        values = with_all s.top.values (phi_values e.code s.top.values
            (label_from (function_in e s.top.func) s.top.block) (phis_at (function_in e s.top.func) (leads i)));
      };
    })
    ∙ (λ i. record s {
      top = record s.top {
        block = block;
        at = 0;
        values = with_all s.top.values (phi_values e.code s.top.values
            (label_from (function_in e s.top.func) s.top.block) (bare i));
      };
    }))

pub enters_bare_too : (e : Elision) (t : State) (label block func : ℕ) → t.top.func ≡ func
    → IsEntering (elided e) t label → position_of (function_in e func) label ≡ block
    → phis_at (function_in e func) block ≡ []
    → framed_step (elided e) t ≡ record t { top = record t.top { block = block; at = 0 } }
enters_bare_too e t label block func same h leads bare =
    entered (elided e) t label h
    ∙ (enters e t label func same
    ∙ ((λ i. record t {
      top = record t.top {
        block = leads i;
        at = 0;
        values = with_all t.top.values (phi_values e.code t.top.values (label_from (function_in e func) t.top.block)
            (phis_at (function_in e func) (leads i)));
      };
    })
    ∙ (λ i. record t {
      top = record t.top {
        block = block;
        at = 0;
        values = with_all t.top.values (phi_values e.code t.top.values (label_from (function_in e func) t.top.block)
            (bare i));
      };
    })))

-- ---- at the end of a block

-- an activation of a function stands at the end of a block, whose branch on a name passes by
pub record StandsAtBranch (e : Elision) (c : Activation) (func n one other : ℕ) : Type 0 where
  pub none : GivesNone e func
  pub at : c.at ≡ length (instrs_of (function_in e func) c.block)
  pub branch : fetch (function_in e func) c.block (length (instrs_of (function_in e func) c.block))
      ≡ AtTerm (Terminator.Branch (Operand.Local n) one other)
  pub need : (e.shape func).need n ≡ true → value_in c.values n ≡ truth_value false
  pub tested : (q : Bool) → (e.shape func).tested n ≡ Some q → value_in c.values n ≡ truth_value q

pub same_branch : (n v one other to from : ℕ) → AtTerm (Terminator.Branch (Operand.Local n) one other)
    ≡ AtTerm (Terminator.Branch (Operand.Local v) to from) → n ≡ v
same_branch n v one other to from e = cc

pub at_end : (e : Elision) (c : Activation) (n one other : ℕ) → StandsAtBranch e c c.func n one other → IsAtEnd e c
at_end e c n one other h = record {
  at = h.at
      ∙ sym (own_same (rooms e c.func) (function_in e c.func) h.none c.block
      (length (instrs_of (function_in e c.func) c.block)));
  skips = λ v to from there.
      let name : n ≡ v = same_branch n v one other to from (sym h.branch ∙ there) in
      subst (λ (u : ℕ). Skips e c u) name (record { need = h.need; tested = h.tested });
}

-- ---- the states

-- both went on, or one of them did
module _ (e : Elision) (s t : State) (r : AreElided e s t) (none : GivesNone e s.top.func) where
  abbrev f : ℕ
  f = s.top.func

  abbrev d : Sides
  d = sides s t

  bare_allocas : allocas_ahead (rooms e s.top.func) (function_in e s.top.func) ≡ []
  bare_allocas = no_allocas (rooms e f) (function_in e f) none

  none_ahead : length (allocas_ahead (rooms e f) (function_in e f)) ≡ 0
  none_ahead = ap (λ (is : List Instr). length is) bare_allocas

  allocas_by : (own : List Slot) → HasAllocas e r.homes r.hides d s.top t.top own
      → length own ≡ length (allocas_ahead (rooms e f) (function_in e f))
  allocas_by own (inl first) = ap (λ (xs : List Slot). length xs) first.2 ∙ sym none_ahead
  allocas_by own (inr made) = made.1

  -- there are as many slots, since none is put in front
  pub bare_slots : length t.top.slots ≡ length s.top.slots + length (allocas_ahead (rooms e f) (function_in e f))
  bare_slots =
      let slots = ap (λ (xs : List Slot). length xs) r.top.slots in
      let both = length-append (map (moved_slot r.homes) s.top.slots) r.top.own in
      let few = map_long (moved_slot r.homes) s.top.slots in
      let own = allocas_by r.top.own r.top.allocas in
      omega (arith, slots, both, few, own)

  module _ (block at other to : ℕ) (vs ws : Env) where
    abbrev a : Activation
    a = gone_on s.top block at vs s.top.has_left

    abbrev c : Activation
    c = gone_on t.top other to ws t.top.has_left

    all_there : Each (HasAlloca r.homes r.hides d c r.top.own) (allocas_ahead (rooms e f) (function_in e f))
    all_there =
        subst (λ (is : List Instr). Each (HasAlloca r.homes r.hides d c r.top.own) is) (sym bare_allocas) tt

    pub bare_made : HasAllocas e r.homes r.hides d a c r.top.own
    bare_made = inr (all_there, allocas_by r.top.own r.top.allocas)

  -- no value is set
  module _ (block at other to : ℕ) (place : IsAt e r.homes (was_given d t.top)
      (record s.top { block = block; at = at }) (record t.top { block = other; at = to }))
      (held : SameHeld s.top.values s.top.values (held_name e (is_given_mode t.top.mode) s.top)
      (held_name e (is_given_mode t.top.mode) (record s.top { block = block; at = at }))) where
    still : AreReleased (e.shape f) d s.top t.top
        → AreReleased (e.shape f) d (record s.top { block = block; at = at })
        (record t.top { block = other; at = to })
    still h = record { freed = h.freed; tested = h.tested }

    pub gone : AreElided e (record s { top = record s.top { block = block; at = at } })
        (record t { top = record t.top { block = other; at = to } })
    gone =
        moved e s t r block at s.top.values s.top.has_left other to t.top.values t.top.has_left r.top.has_left place
        (record { each = r.top.values.each; room = r.top.values.room }) r.top.asked
        (λ given. still (r.top.released given)) (bare_made block at other to s.top.values t.top.values) held

-- An activation goes on behind a call, while what it called stands on top of it.
use Rattle.std.proofs.Common.{◌≡◌, ◌+◌, inr, ℕ, suc, Bool, true, false, List, [], ◌∷◌, Option, refl, sym, ap, ◌∙◌, subst, arith}
use Rattle.std.specs.Prelude.{None, Some, slice_get}
use Rattle.pass_elide_proof.proofs.Apart.{apart_more, apart_same, held_by, held_more}
use Rattle.pass_elide_proof.proofs.ElidedFound.{fetched, operand_stands}
use Rattle.pass_elide_proof.proofs.Modules.{finds_alike}
use Rattle.pass_elide_proof.proofs.Standing.{has_code}
use Rattle.pass_elide_proof.specs.Calling.{AreReady, HoldsStill, IsAlike, at_front, differing}
use Rattle.pass_elide_proof.specs.Counts.{capped, given_frames}
use Rattle.pass_elide_proof.specs.Elision.{Elision, elided, elided_code, framed, function_in, function_in_elided, rooms}
use Rattle.pass_elide_proof.specs.Match.{AreActivations, AreBelow, AreElided, Beside, HasAlloca, HoldApart, HoldsBlock, Sides, held_blocks, held_name, holds_one, is_given_mode, sides}
use Rattle.pass_elide_proof.specs.Places.{allocas_ahead, elided_instr, front_at, instrs_of, name_at, own_at, room_at}
use Rattle.pass_proofs.specs.ir_model.Ty.{Ty}
use Rattle.pass_proofs.specs.ir_model.declared.instr.Instr.{Instr}
use Rattle.pass_proofs.specs.ir_model.declared.module.Function.{Function}
use Rattle.pass_proofs.specs.ir_model.declared.operand.Arg.{Arg}
use Rattle.pass_proofs.specs.ir_model.declared.operand.Operand.{Operand}
use Rattle.pass_proofs.specs.run_laws.changed.Changed.{Each, values_of}
use Rattle.pass_proofs.specs.run_laws.embedded.Related.{AreValues}
use Rattle.pass_proofs.specs.run_laws.memory.Pointers.{Home, IsValue}
use Rattle.pass_proofs.specs.run_source.Source.{push}
use Rattle.pass_proofs.specs.run_source.State.{function_of}
use Rattle.pass_proofs.specs.run_source.declared.state.Activation.{Activation}
use Rattle.pass_proofs.specs.run_source.declared.state.State.{State}
use Rattle.pass_proofs.specs.run_step.Step.{AtInstr, fetch}
use Rattle.pass_proofs.specs.run_step.Values.{arg_values, operand_value, value_in}
use Rattle.pass_proofs.specs.run_step.declared.world.Slot.{Slot}

-- ---- allocas of an activation at another place

module _ (homes : List Home) (hides : ℕ → Bool) (d : Sides) (c c' : Activation) (own : List Slot)
    (same : (v : ℕ) → value_in c'.values v ≡ value_in c.values v) where
  alloca_same : (i : Instr) → HasAlloca homes hides d c own i → HasAlloca homes hides d c' own i
  alloca_same i h = record {
    name = h.name;
    size = h.size;
    align = h.align;
    is = h.is;
    block = h.block;
    address = same h.name ∙ h.address;
    slot = h.slot;
    there = h.there;
    is_there = h.is_there;
    kind = h.kind;
    live = h.live;
    sized = h.sized;
    full = h.full;
    free = h.free;
  }

  pub allocas_same : (is : List Instr) → Each (HasAlloca homes hides d c own) is
      → Each (HasAlloca homes hides d c' own) is
  allocas_same [] h = tt
  allocas_same (i ∷ is) h = (alloca_same i h.0, allocas_same is h.1)

module _ (e : Elision) (s t : State) (r : AreReady e s t) where
  abbrev f : Function
  f = function_in e s.top.func

  -- ---- what stands there

  pub ours : (i : Instr) → slice_get (instrs_of (function_in e s.top.func) s.top.block) s.top.at ≡ Some i
      → fetch (function_of (framed e).given s) s.top.block s.top.at ≡ AtInstr i
  ours i there = fetched f s.top.block s.top.at i there

  pub theirs : (i : Instr) → slice_get (instrs_of (function_in e s.top.func) s.top.block) s.top.at ≡ Some i
      → fetch (function_of (elided e).given t) t.top.block t.top.at
      ≡ AtInstr (elided_instr (name_at (rooms e s.top.func) (function_in e s.top.func) s.top.block s.top.at)
      (room_at (rooms e s.top.func) (function_in e s.top.func) s.top.block s.top.at i) i)
  theirs i there =
      (λ j. fetch (function_in_elided e (r.beside.top.func j)) (r.block j) (r.at j))
      ∙ ap (λ (h : Function). fetch h s.top.block (own_at (rooms e s.top.func) f s.top.block s.top.at))
      ((finds_alike e).functions s.top.func)
      ∙ (has_code (rooms e s.top.func) f).instr s.top.block s.top.at i there

  -- ---- what it reads

  local_stands : (x : Operand) → IsAlike (differing e s t) x → (v : ℕ) → x ≡ Operand.Local v
      → IsValue r.beside.homes (value_in s.top.values v) (value_in t.top.values v)
  local_stands (Operand.Local u) h v is =
      let same : u ≡ v = cc in
      r.beside.top.values.each v (ap (differing e s t) (sym same) ∙ h)
  local_stands (Operand.Global n) h v is = absurd (cc)
  local_stands (Operand.Number z) h v is = absurd (cc)
  local_stands Operand.True h v is = absurd (cc)
  local_stands Operand.False h v is = absurd (cc)
  local_stands Operand.Null h v is = absurd (cc)
  local_stands Operand.None h v is = absurd (cc)
  local_stands Operand.Poison h v is = absurd (cc)

  pub read_stands : (x : Operand) → IsAlike (differing e s t) x → (ty : Ty)
      → IsValue r.beside.homes (operand_value e.code s.top.values ty x)
      (operand_value (elided_code e) t.top.values ty x)
  read_stands x h ty =
      operand_stands e r.beside.homes r.beside.globals s.top.values t.top.values x (local_stands x h) ty

  pub args_stand : (args : List Arg) → Each (IsAlike (differing e s t)) (values_of args)
      → AreValues r.beside.homes (arg_values e.code s.top.values args)
      (arg_values (elided_code e) t.top.values args)
  args_stand [] h = tt
  args_stand (a ∷ args) h = (read_stands a.value h.0 a.ty, args_stand args h.1)

  -- ---- the caller, behind the call

  abbrev pub behind : Activation
  behind = record s.top { at = s.top.at + 1 }

  abbrev pub behind_too : Activation
  behind_too = record t.top { at = t.top.at + 1 }

  module _ (holds : HoldsStill e s) where
    held_to : (o : Option ℕ) → HoldsBlock r.beside.hides s.world.memory s.top o
        → HoldsBlock r.beside.hides s.world.memory behind o
    held_to None h = tt
    held_to (Some name) h =
        record { block = h.block; size = h.size; address = h.address; hidden = h.hidden; there = h.there }

    pub same_name : (b : Bool) → held_name e b behind ≡ held_name e b s.top
    same_name true = holds
    same_name false = refl

    held : HoldsBlock r.beside.hides s.world.memory behind
        (held_name e (is_given_mode t.top.mode) behind)
    held =
        subst (λ (o : Option ℕ). HoldsBlock r.beside.hides s.world.memory behind o)
        (sym (same_name (is_given_mode t.top.mode)))
        (held_to (held_name e (is_given_mode t.top.mode) s.top) r.beside.top.held)

    at_behind : t.top.at + 1 ≡ front_at (rooms e s.top.func) (function_in e s.top.func) s.top.block (s.top.at + 1)
    at_behind =
        let next : suc s.top.at ≡ s.top.at + 1 = omega arith in
        ap (λ (n : ℕ). n + 1) r.at
        ∙ ap (front_at (rooms e s.top.func) (function_in e s.top.func) s.top.block) next

    pub caller : AreActivations e r.beside.homes r.beside.hides (sides s t) behind behind_too
    caller = record {
      func = r.beside.top.func;
      result = r.beside.top.result;
      instance = r.beside.top.instance;
      has_left = r.beside.top.has_left;
      mode = r.beside.top.mode;
      place = Beside r.block at_behind;
      values = record { each = r.beside.top.values.each; room = r.beside.top.values.room };
      asked = r.beside.top.asked;
      released = λ given. record {
        freed = (r.beside.top.released given).freed;
        tested = (r.beside.top.released given).tested;
      };
      own = r.beside.top.own;
      slots = r.beside.top.slots;
      allocas = inr (
        allocas_same r.beside.homes r.beside.hides (sides s t) t.top behind_too r.beside.top.own (λ v. refl)
            (allocas_ahead (rooms e s.top.func) (function_in e s.top.func)) r.made,
        r.many,
      );
      held = held;
    }

    pub callers : AreBelow e r.beside.homes r.beside.hides (sides s t) (behind ∷ s.below) (behind_too ∷ t.below)
    callers = ((r.block, caller), r.beside.below)

    pub callers_apart : HoldApart e (behind ∷ s.below) (behind_too ∷ t.below)
    callers_apart =
        apart_same e s.below t.below s.top (at_front e s t).top behind behind_too (same_name (is_given_mode t.top.mode))
        (λ u h. refl) r.beside.once

    pub callers_held : held_blocks e (behind ∷ s.below) (behind_too ∷ t.below)
        ≡ held_blocks e (s.top ∷ s.below) ((at_front e s t).top ∷ t.below)
    callers_held =
        ap (λ (o : Option ℕ). holds_one o + held_blocks e s.below t.below) (same_name (is_given_mode t.top.mode))

    -- what was called stands on top
    pub pushed : (x y : Activation) → AreActivations e r.beside.homes r.beside.hides (sides s t) x y
        → held_by e x y ≡ None → AreElided e (push s x) (push t y)
    pushed x y new none = record {
      homes = r.beside.homes;
      hides = r.beside.hides;
      world = r.beside.world;
      known = r.beside.known;
      globals = r.beside.globals;
      hidden = r.beside.hidden;
      mates = r.beside.mates;
      count = r.beside.count;
      instances = r.beside.instances;
      top = new;
      below = callers;
      once = apart_more e (behind ∷ s.below) (behind_too ∷ t.below) x y none callers_apart;
      allocs = r.beside.allocs
          ∙ ap (λ (n : ℕ). capped (t.world.allocs + (given_frames t + n)))
          (sym (held_more e (behind ∷ s.below) (behind_too ∷ t.below) x y none ∙ callers_held));
      outcome = r.beside.outcome;
    }

-- Where both runs go on behind an instruction of a coroutine, and nothing else changes, the relation holds.
use Rattle.std.proofs.Common.{◌≡◌, ℕ, ◌+◌, true, false, Option, refl, sym, ap, ◌∙◌, subst, arith}
use Rattle.pass_frames_proof.specs.ir_paths.declared.point.Point.{Point}
use Rattle.pass_frames_proof.proofs.stepping.After.{cells_turned, right_there, wheres_there, wheres_turned}
use Rattle.pass_frames_proof.proofs.stepping.May.{coroutine_values, not_returned}
use Rattle.pass_frames_proof.proofs.stepping.Operands.{asked}
use Rattle.pass_frames_proof.proofs.stepping.Rest.{LeavesRest, own_slots, rest_related}
use Rattle.pass_frames_proof.proofs.stepping.Same.{rest_left}
use Rattle.pass_frames_proof.proofs.stepping.Stands.{made_of, top_is, values_of}
use Rattle.pass_frames_proof.specs.Framings.{IsFraming}
use Rattle.pass_frames_proof.specs.Places.{Framing, is_return, place}
use Rattle.pass_frames_proof.specs.Related.{AreActivations, AreAhead, AreBuiltOf, AreCellsRight, AreCoroutines, AreWheresRight, Building, HasCells, IsAhead, instance_in, is_coroutine, is_first, top_place}
use Rattle.pass_frames_proof.specs.Stepping.{IsNotEntering}
use Rattle.pass_frames_proof.specs.run_framed.Framed.{frame_rights}
use Rattle.pass_frames_proof.specs.run_memory.Memory.{Rights}
use Rattle.pass_frames_proof.specs.run_source.declared.state.Activation.{Activation}
use Rattle.pass_frames_proof.specs.run_source.declared.state.Instance.{Instance}
use Rattle.pass_frames_proof.specs.run_source.declared.state.State.{State}

module _ (b : Building) (s t : State) (r : AreBuiltOf b s t)
    (framings : (func : ℕ) → is_coroutine b func ≡ true → IsFraming (b.framing func))
    (coroutine : is_coroutine b s.top.func ≡ true) (mode : IsNotEntering s.top.mode)
    (unreturned : is_return (b.framing s.top.func) s.top.block ≡ false) (at : ℕ)
    (place_is : at ≡ (place (b.framing s.top.func) (record { block = s.top.block; at = s.top.at + 1 })).at) where
  abbrev x : Framing
  x = b.framing s.top.func

  abbrev R : Rights
  R = frame_rights b.given t.instances

  abbrev a' : Activation
  a' = record s.top { at = s.top.at + 1 }

  abbrev c' : Activation
  c' = record t.top { at = at }

  abbrev own : Option Instance
  own = instance_in t.instances t.top.instance

  before : AreCoroutines x r.homes R t s.top t.top
  before = coroutine_values b r.homes R t s.top t.top (is_coroutine b s.top.func) coroutine r.top.values

  cells : AreCellsRight x r.homes R t.world.memory s.top.values t.top × AreWheresRight x R t.world.memory own t.top
  cells =
      subst (λ (o : Option ℕ). HasCells x r.homes R t.world.memory own s.top t.top o)
      (not_returned x s.top s.top.mode mode unreturned) before.cells

  right : AreCellsRight x r.homes R t.world.memory s.top.values c'
  right = cells_turned R t.world.memory t.top c' x r.homes s.top.values refl refl cells.0

  wheres : AreWheresRight x R t.world.memory own c'
  wheres = wheres_turned R t.world.memory t.top c' x own refl (λ e listed. (refl, refl)) cells.1

  abbrev t' : State
  t' = record t { world = t.world; top = c' }

  after : AreCoroutines x r.homes R t' a' c'
  after = record {
    names = record {
      each = λ u asks unkept outside. before.names.each u (asked x s.top s.top.mode u mode) unkept outside;
      room = before.names.room;
    };
    cells = subst (λ (o : Option ℕ). HasCells x r.homes R t.world.memory own a' c' o)
        (sym (not_returned x a' s.top.mode mode unreturned)) (right, wheres);
    made = made_of x R t.world.memory c' s.top.mode mode (
      right_there x (framings s.top.func coroutine) r.homes R t.world.memory s.top.values c' right,
      wheres_there x R t.world.memory c' own wheres,
    );
  }

  left : LeavesRest b s t r s.world t.world
  left =
      rest_left b s t r s.world t.world (λ q. ⊥) framings refl (λ q none. refl) (λ q lt seen off. off)
      (λ q l off. off)

  block_is : t.top.block ≡ s.top.block
  block_is = ap (λ (p : Point). p.block) (r.top.place ∙ top_is b s.top coroutine mode)

  top_after : AreActivations b r.homes r.hides t' (top_place b) a' c'
  top_after = record {
    func = r.top.func;
    place = (λ j. record { block = block_is j; at = place_is j }) ∙ sym (top_is b a' coroutine mode);
    result = r.top.result;
    mode = r.top.mode;
    instance = r.top.instance;
    has_left = r.top.has_left;
    values = values_of b r.homes R t' a' c' (is_coroutine b s.top.func) coroutine after;
    slots = own_slots b s t r s.world t.world left s.top.block (s.top.at + 1) t.top.block at s.top.values t.top.values;
  }

  ahead : is_coroutine b s.top.func ≡ true → is_first s.top.mode ≡ true → s.top.block ≡ 0
      → AreAhead x r.homes r.hides s.world.memory t.world.memory a' c'
  ahead q first in_entry = record {
    slots = λ n u align ty e le outside.
        turned u align ((r.ahead.0 q first in_entry).slots n u align ty e (omega (arith, le)) outside);
    temporaries = λ e n align ty listed there le.
        turned e.temporary e.align ((r.ahead.0 q first in_entry).temporaries e n align ty listed there (omega (arith, le)));
  }
    where
      turned : (u align : ℕ) {ty : Rattle.pass_frames_proof.specs.ir_model.Ty.Ty}
          → IsAhead x r.homes r.hides s.world.memory t.world.memory t.top u ty align
          → IsAhead x r.homes r.hides s.world.memory t.world.memory c' u ty align
      turned u align one = record {
        block = one.block;
        address = one.address;
        own = one.own;
        free = one.free;
        bytes = one.bytes;
        sized = one.sized;
        there = one.there;
      }

  pub going_related : AreBuiltOf b (record s { top = a' }) (record t { top = c' })
  going_related =
      rest_related b s t r s.world t.world left s.top.block (s.top.at + 1) t.top.block at s.top.values t.top.values
      r.world ahead top_after

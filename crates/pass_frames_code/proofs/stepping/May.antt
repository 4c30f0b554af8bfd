-- An ordinary instruction of a coroutine at a state that is related: what its line asks is there.
use Rattle.std.proofs.Common.{◌≡◌, ℕ, ◌≤◌, length, sym, ◌∙◌, subst}
use Rattle.std.specs.List.{Contains}
use Rattle.std.specs.Prelude.{Some}
use Rattle.pass_proofs.specs.ir_model.declared.instr.Instr.{Instr}
use Rattle.pass_proofs.specs.ir_model.declared.operand.Callee.{Callee}
use Rattle.pass_proofs.specs.ir_parts.Contents.{result_of}
use Rattle.pass_proofs.specs.pass_cells.declared.plan.KeptValue.{KeptValue}
pub use Rattle.pass_frames_code.proofs.stepping.Fetch.{coroutine_values, named_alike, not_returned, own_blocks}
use Rattle.pass_frames_code.proofs.stepping.Fetch as fetching
use Rattle.pass_frames_code.specs.Operands.{IsAtFetch}
use Rattle.pass_frames_code.specs.Code.{load_name}
use Rattle.pass_frames_code.specs.Framings.{IsFraming}
use Rattle.pass_frames_code.specs.Led.{IsLed, MayStepLed}
use Rattle.pass_frames_code.specs.Lines.{IsCellOf, IsStorable}
use Rattle.pass_frames_code.specs.Places.{Framing, Placed, edged}
use Rattle.pass_frames_code.specs.Related.{AreBuiltOf, AreCellsRight, AreCoroutines, AreWheresRight, Building, IsCellName, IsFreeOf, IsKeptValue, instance_in}
use Rattle.pass_frames_code.specs.Stepping.{IsCommon, AreGiven, IsAtOrdinary, placed_front, placed_instr, state_in}
use Rattle.pass_renewed_proof.specs.Renewed.{RenewedGiven}
use Rattle.pass_proofs.specs.run_framed.Framed.{frame_rights, framed_context}
use Rattle.pass_proofs.specs.run_laws.changed.Changed.{callee_at}
use Rattle.pass_proofs.specs.run_laws.transfer.Transfer.{IsPointedAlike, same_maps}
use Rattle.pass_proofs.specs.run_memory.Memory.{Rights}
use Rattle.pass_proofs.specs.run_source.Source.{context_of}
use Rattle.pass_proofs.specs.run_source.State.{work_of}
use Rattle.pass_proofs.specs.run_source.declared.state.State.{State}
use Rattle.pass_proofs.specs.run_step.Step.{AtInstr, Context, Done, Work, instr_action}
use Rattle.pass_proofs.specs.run_step.Values.{Env, value_in}
use Rattle.pass_proofs.specs.run_step.declared.world.Slot.{Slot}

pub not_pointed : (c d : Context) (env : Env) (i : Instr) → IsCommon i → IsPointedAlike same_maps c d env (AtInstr i)
not_pointed c d env (Instr.Binary r op flags ty a b) q = tt
not_pointed c d env (Instr.Icmp r pred ty a b) q = tt
not_pointed c d env (Instr.Select r k a b) q = tt
not_pointed c d env (Instr.Cast r op nneg a to) q = tt
not_pointed c d env (Instr.Alloca r ty align) q = absurd q
not_pointed c d env (Instr.Load r ty p align) q = tt
not_pointed c d env (Instr.Store a p align) q = tt
not_pointed c d env (Instr.Gep r inbounds ty p indices) q = tt
not_pointed c d env (Instr.Call r must_tail ty (Callee.Named n) args) q = tt
not_pointed c d env (Instr.Call r must_tail ty (Callee.Allocator n) args) q = absurd q
not_pointed c d env (Instr.Call r must_tail ty (Callee.Intrinsic n) args) q = absurd q
not_pointed c d env (Instr.Call r must_tail ty (Callee.Local n) args) q = absurd q

-- ---- the state

-- its operands may be fetched
pub at_fetch : (b : Building) (g : RenewedGiven) (s : State) (i : Instr) (v : Work) → IsAtOrdinary b g s i v
    → IsAtFetch b s i
at_fetch b g s i v h = record {
  coroutine = h.coroutine;
  mode = h.mode;
  there = h.there;
  unreturned = h.unreturned;
  order = h.order;
  below = h.below;
  begin = h.begin;
  offsets = h.offsets;
  room = h.room;
  operands = h.operands;
}

module _ (b : Building) (g : RenewedGiven) (given : AreGiven b g) (s t : State) (r : AreBuiltOf b s t) (i : Instr)
    (v : Work) (h : IsAtOrdinary b g s i v) where
  abbrev x : Framing
  x = b.framing s.top.func

  abbrev place_state : Placed
  place_state = state_in x s.top.block s.top.at

  abbrev n : ℕ
  n = load_name place_state

  abbrev c : Context
  c = context_of g.given s

  abbrev d : Context
  d = framed_context b.given t

  abbrev R : Rights
  R = frame_rights b.given t.instances

  abbrev at : IsAtFetch b s i
  at = at_fetch b g s i v h

  pub is : IsFraming x
  is = fetching.is b g given s t r i at

  pub values : AreCoroutines x r.homes R t s.top t.top
  values = fetching.values b g given s t r i at

  pub cells : AreCellsRight x r.homes R t.world.memory s.top.values t.top
      × AreWheresRight x R t.world.memory (instance_in t.instances t.top.instance) t.top
  cells = fetching.cells b g given s t r i at

  pub low : length (edged x).names ≤ n
  low = fetching.low b g given s t r i at

  pub led : IsLed r.homes c d (work_of s) (work_of t) n i (placed_instr x place_state i) (placed_front x place_state i)
  led = fetching.led b g given s t r i at

  pub cell_name : (u : ℕ) → IsCellOf x u → IsCellName x u
  cell_name = fetching.cell_name b g given s t r i at

  pub free : (slot : Slot) → Contains t.top.slots slot → IsCellName x slot.alloca
      → IsFreeOf r.homes r.hides s.world.memory slot.block
  free = fetching.free b g given s t r i at

  pub may : MayStepLed x r.homes r.hides c d (work_of s) (work_of t) t.top n i (placed_instr x place_state i)
      (placed_front x place_state i)
  may = record {
    led = led;
    joined = record {
      over = r.world;
      hidden = r.hidden;
      answers = given.answers;
      room = fetching.enough b g given s t r i at;
    };
    cells = cells.0;
    free = λ slot listed of. free slot listed (cell_name slot.alloca of);
    own = own_blocks t r.once;
    low = h.order.low;
    callee = named_alike c d (fetching.same_names b g given s t r i at).functions (fetching.same_names b g given s t r i at).declarations (callee_at (AtInstr i));
    bytes = h.bytes;
    pointed = not_pointed c d s.top.values i h.common;
    distance = h.far r.homes d led.work.values (placed_instr x place_state i) given.code led.shape;
    storable = λ u does k kept e is_kept. storable_at u does k kept e is_kept;
    result = h.unmeasured;
  }
    where
      storable_at : (u : Work) → instr_action c (work_of s) i ≡ Done u → (k : ℕ) (kept : KeptValue)
          → result_of i ≡ Some k → IsKeptValue x k kept → IsStorable kept.ty (value_in u.values k)
      storable_at u does k kept e is_kept =
          let both : Done v ≡ Done u = sym h.does ∙ does in
          let one : v ≡ u = cc in
          subst (λ (z : Work). IsStorable kept.ty (value_in z.values k)) one (h.storable k kept e is_kept)

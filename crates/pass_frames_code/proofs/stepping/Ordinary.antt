-- An ordinary instruction of a coroutine is followed: its operands are fetched, it is executed, and its result is
-- stored.
use Rattle.std.proofs.Common.{◌≡◌, ◌⊎◌, inl, inr, ⊎_elim, ℕ, ◌<◌, ◌≤◌, true, List, length, refl, sym, ◌∙◌, subst, arith}
use Rattle.std.specs.List.{Contains}
use Rattle.std.specs.Prelude.{map, slice_get}
use Rattle.pass_proofs.specs.flow_solver.Paths.{IsListed}
use Rattle.pass_proofs.specs.ir_base.declared.outcome.Outcome.{Outcome}
use Rattle.pass_proofs.specs.ir_model.Ty.{Ty, ptr}
use Rattle.pass_proofs.specs.ir_model.declared.instr.Instr.{Instr}
use Rattle.pass_proofs.specs.pass_copies.declared.slot.EarlySlot.{EarlySlot}
use Rattle.pass_frames_code.proofs.followed.Assembly.{events_same, other_instance}
use Rattle.pass_frames_code.proofs.lined.Lines.{each_between, line_leads}
use Rattle.pass_frames_code.proofs.lines.Cells.{other_block}
use Rattle.pass_frames_code.proofs.stepping.Executed.{led_there, stands_there}
use Rattle.pass_frames_code.proofs.stepping.May.{cell_name, cells, free, own_blocks}
use Rattle.pass_frames_code.proofs.stepping.Rest.{LeavesRest, below_apart, instance_kept, stood_apart}
use Rattle.pass_frames_code.proofs.stepping.Same.{kept, rest_left}
use Rattle.pass_proofs.specs.pass_fetch.Fetching.{value_bytes}
use Rattle.pass_frames_code.specs.Followed.{IsFollowed, IsOn}
use Rattle.pass_frames_code.specs.Led.{IsOnWay, SparesBlocks, StepsLed}
use Rattle.pass_frames_code.specs.Lined.{GivesNone, lined}
use Rattle.pass_frames_code.specs.Lines.{IsCellOf}
use Rattle.pass_frames_code.specs.Places.{Framing, Placed, copies, named, written}
use Rattle.pass_frames_code.specs.Related.{AreBuiltOf, AreWheresRight, Building, IsAhead, IsCellName, IsFreeOf, instance_in, slots_below}
use Rattle.pass_frames_code.specs.Stepping.{AreGiven, IsAtOrdinary, StandsInPlace, placed_front, placed_line, state_in}
use Rattle.pass_renewed_proof.specs.Renewed.{RenewedGiven}
use Rattle.pass_proofs.specs.run_agreement.Machines.{iterate}
use Rattle.pass_proofs.specs.run_framed.Framed.{framed_context, framed_step, frame_rights}
use Rattle.pass_proofs.specs.run_laws.access.Lines.{StandAt}
use Rattle.pass_proofs.specs.run_laws.changed.Changed.{Each}
use Rattle.pass_proofs.specs.run_laws.memory.Pointers.{home_of}
use Rattle.pass_proofs.specs.run_memory.Memory.{Rights}
use Rattle.pass_proofs.specs.run_memory.declared.block.MemoryBlock.{MemoryBlock}
use Rattle.pass_proofs.specs.run_source.Source.{context_of}
use Rattle.pass_proofs.specs.run_source.State.{function_of, settled, work_of}
use Rattle.pass_proofs.specs.run_source.declared.state.State.{State}
use Rattle.pass_proofs.specs.run_step.Step.{Context, Work}
use Rattle.pass_proofs.specs.run_step.declared.world.Slot.{Slot}
use Rattle.pass_frames_code.proofs.stepping.Names.{named_written, slots_new}
use Rattle.pass_frames_code.proofs.stepping.Shown.{still_shown}
use Rattle.pass_frames_code.proofs.stepping.Place.{gives, runs, stand_there}
use Rattle.pass_frames_code.proofs.stepping.Finish.{finished, related_after}
use Rattle.pass_frames_code.specs.Led.{IsDoneLed, LeavesMemory}

-- ---- of an instruction that changes no memory

module _ (b : Building) (g : RenewedGiven) (given : AreGiven b g) (s t : State) (r : AreBuiltOf b s t) (i : Instr)
    (v : Work) (h : IsAtOrdinary b g s i v)
    (stands : StandsInPlace (b.framing s.top.func) s.top.block s.top.at
    (placed_line (b.framing s.top.func) (state_in (b.framing s.top.func) s.top.block s.top.at) i))
    (all : StepsLed (b.framing s.top.func) r.homes r.hides (context_of g.given s) (framed_context b.given t)
    (work_of s)
    (work_of t) v t.top i (placed_front (b.framing s.top.func) (state_in
    (b.framing s.top.func) s.top.block s.top.at) i)
    (placed_line (b.framing s.top.func) (state_in (b.framing s.top.func) s.top.block s.top.at) i)) where
  abbrev x : Framing
  x = b.framing s.top.func

  abbrev n : Placed
  n = state_in x s.top.block s.top.at

  abbrev R : Rights
  R = frame_rights b.given t.instances

  abbrev c : Context
  c = context_of g.given s

  abbrev line : List Instr
  line = placed_line x n i

  abbrev front : List Instr
  front = placed_front x n i

  abbrev led : IsDoneLed x r.homes r.hides c (framed_context b.given t) (work_of s) (work_of t) v t.top i front
  led = all.led

  abbrev P : Work → Type 0
  P = IsOnWay x t.top (work_of t) led.work

  running : t.outcome ≡ Outcome.Running
  running = runs b g given s t r i v h stands

  stand : StandAt (function_of b.given.given t) t.top.block t.top.at line
  stand = stand_there b g given s t r i v h stands

  there_none : Each (GivesNone b.given.given.code) line
  there_none = gives b g given s t r i v h stands

  leads : iterate (framed_step b.given) (length line) t ≡ lined t (length line) led.work
  leads = line_leads b.given t P line led.work running stand there_none all.runs

  -- ---- what is touched: cells alone

  abbrev Touched : ℕ → Type 0
  Touched e = (slot : Slot) × Contains t.top.slots slot × IsCellOf x slot.alloca × (slot.block ≡ e)

  cell_name_of : (slot : Slot) → IsCellOf x slot.alloca → IsCellName x slot.alloca
  cell_name_of slot of = cell_name b g given s t r i v h slot.alloca of

  stood : (k : ℕ) → k < length s.world.memory → (home_of r.homes k).is_seen ≡ true
      → Touched (home_of r.homes k).block → ⊥
  stood k lt seen z =
      stood_apart b s t r z.0.block k (free b g given s t r i v h z.0 z.1 (cell_name_of z.0 z.2)) lt seen (sym z.3)

  others_apart : (k : ℕ) → IsListed k (map (λ (slot : Slot). slot.block) (slots_below t.below)) → Touched k → ⊥
  others_apart k l z =
      below_apart b s t r z.0 z.1
      (subst (λ (u : ℕ). IsListed u (map (λ (slot : Slot). slot.block) (slots_below t.below))) (sym z.3) l)

  -- ---- the memories behind it

  same_blocks : (e : ℕ) → (Touched e → ⊥) → slice_get led.work.world.memory e ≡ slice_get t.world.memory e
  same_blocks e none = all.spares.same e (λ slot listed of same. none (slot, listed, of, same))

  left : LeavesRest b s t r v.world led.work.world
  left =
      rest_left b s t r v.world led.work.world Touched given.framings all.source_memory same_blocks stood others_apart

  -- the cells of addresses lie in other blocks than those of values
  wheres_here : AreWheresRight x R t.world.memory (instance_in t.instances t.top.instance) t.top
      → AreWheresRight x R led.work.world.memory (instance_in t.instances t.top.instance) t.top
  wheres_here k = record {
    each = λ e listed.
        let q = k.each e listed in record {
          block = q.block;
          address = q.address;
          own = q.own;
          bytes = q.bytes;
          sized = q.sized;
          holds = kept b s t r v.world led.work.world Touched given.framings all.source_memory same_blocks stood
              others_apart q.block
              (λ z. other_block t.top z.0.alloca e.cell z.0.block q.block (own_blocks t r.once) z.1 q.own
              (λ same. apart e listed z.0.alloca z.2 same) z.3)
              0 (value_bytes ptr) q.bytes q.holds;
          has = q.has;
        };
  }
    where
      apart : (e : EarlySlot) → Contains (copies x).slots e → (u : ℕ) → IsCellOf x u → u ≡ e.cell → ⊥
      apart e listed u of same =
          let lt : u < length (named x).names = of.1 in
          let high : length (written x).names ≤ e.cell = (slots_new x e listed).1 in
          let long : length (named x).names ≤ length (written x).names = named_written x in
          omega (arith, lt, high, long, same)

  ahead_here : (name align : ℕ) (ty : Ty) → ((u : ℕ) → IsCellOf x u → u ≡ name → ⊥)
      → IsAhead x r.homes r.hides s.world.memory t.world.memory t.top name ty align
      → IsAhead x r.homes r.hides v.world.memory led.work.world.memory t.top name ty align
  ahead_here u align ty other one = record {
    block = one.block;
    address = one.address;
    own = one.own;
    free = subst (λ (m : List MemoryBlock). IsFreeOf r.homes r.hides m one.block) (sym all.source_memory) one.free;
    bytes = one.bytes;
    sized = one.sized;
    there = same_blocks one.block
        (λ z. other_block t.top z.0.alloca u z.0.block one.block (own_blocks t r.once) z.1 one.own
        (other z.0.alloca z.2) z.3)
        ∙ one.there;
  }

  wheres : AreWheresRight x R led.work.world.memory (instance_in t.instances t.top.instance) t.top
  wheres = wheres_here (cells b g given s t r i v h).1

  related_behind : AreBuiltOf b (settled s v) (lined t (length line) led.work)
  related_behind = related_after b g given s t r i v h stands led left wheres ahead_here

  -- ---- what is shown on the way

  shown_behind : (k : ℕ) (u : Work) → u.world.events ≡ led.work.world.events
      → SparesBlocks x t.top t.world.memory u.world.memory
      → IsOn b (settled s v) (lined t k u)
  shown_behind k u e spares = record {
    running = running;
    shown = record {
      homes = r.homes;
      events = e ∙ events_same b (settled s v) (lined t (length line) led.work) related_behind;
      outcome = r.outcome;
      instances = λ j p there suspended.
          let y = other_instance b s t r j p there in (
            y.0,
            y.1,
            instance_kept b s t r s.world u.world
                (rest_left b s t r s.world u.world Touched given.framings refl
                (λ z none. spares.same z (λ slot listed of same. none (slot, listed, of, same))) stood others_apart)
                (lined t k u).top t.below j p y.0 there y.2,
          );
    };
  }

  on_way : (k : ℕ) → 0 < k → k < length line
      → IsOn b s (iterate (framed_step b.given) k t) ⊎ IsOn b (settled s v) (iterate (framed_step b.given) k t)
  on_way k pos lt =
      let z = each_between b.given t P line led.work running stand there_none all.runs k lt in
      ⊎_elim
      (λ e. inl (subst (IsOn b s) (sym z.1.0) (still_shown b s t r given.framings running k z.0 e)))
      (λ e. inr (subst (IsOn b (settled s v)) (sym z.1.0) (shown_behind k z.0 e.0 e.1)))
      z.1.1

  pub followed : IsFollowed b g s t
  followed = finished b g given s t r i v h stands led left wheres ahead_here leads on_way

pub ordinary_followed : (b : Building) (g : RenewedGiven) → AreGiven b g → (s t : State) → AreBuiltOf b s t
    → (i : Instr)
    (v : Work) → IsAtOrdinary b g s i v → LeavesMemory (context_of g.given s) i → IsFollowed b g s t
ordinary_followed b g given s t r i v h leaves =
    followed b g given s t r i v h (stands_there b g given s t r i v h) (led_there b g given s t r i v h leaves)

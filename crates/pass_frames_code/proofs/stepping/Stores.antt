-- A store of a coroutine is followed.
use Rattle.std.proofs.Common.{◌≡◌, ◌⊎◌, inl, ℕ, ◌<◌, List, length, sym, subst}
use Rattle.pass_proofs.specs.ir_base.declared.outcome.Outcome.{Outcome}
use Rattle.pass_proofs.specs.ir_model.Ty.{ptr}
use Rattle.pass_proofs.specs.ir_model.declared.instr.Instr.{Instr}
use Rattle.pass_proofs.specs.ir_model.declared.operand.Arg.{Arg}
use Rattle.pass_proofs.specs.ir_model.declared.operand.Operand.{Operand}
use Rattle.pass_proofs.specs.pass_fetch.Fetching.{value_bytes}
use Rattle.pass_frames_code.proofs.led.Stores.{led_store}
use Rattle.pass_frames_code.proofs.lined.Lines.{each_between, line_leads}
use Rattle.pass_frames_code.proofs.stepping.Executed.{stands_there}
use Rattle.pass_frames_code.proofs.stepping.Finish.{finished}
use Rattle.pass_frames_code.proofs.stepping.May.{cells, free, is, may}
use Rattle.pass_frames_code.proofs.stepping.Names.{where_is_name}
use Rattle.pass_frames_code.proofs.stepping.Place.{gives, runs, stand_there}
use Rattle.pass_frames_code.proofs.stepping.Rest.{LeavesRest}
use Rattle.pass_frames_code.proofs.stepping.Shown.{still_shown}
use Rattle.pass_frames_code.proofs.stepping.Stored.{ahead_kept, free_kept, store_left}
use Rattle.pass_frames_code.specs.Code.{load_name}
use Rattle.pass_frames_code.specs.Followed.{IsFollowed, IsOn}
use Rattle.pass_frames_code.specs.Led.{StoresLed}
use Rattle.pass_frames_code.specs.Lined.{lined}
use Rattle.pass_frames_code.specs.Places.{Framing}
use Rattle.pass_frames_code.specs.Related.{AreBuiltOf, AreWheresRight, Building, instance_in}
use Rattle.pass_frames_code.specs.Stepping.{AreFieldsSpared, AreGiven, IsAtOrdinary, StandsInPlace, placed_front, placed_instr, placed_line, state_in}
use Rattle.pass_renewed_proof.specs.Renewed.{RenewedGiven}
use Rattle.pass_proofs.specs.run_agreement.Machines.{iterate}
use Rattle.pass_proofs.specs.run_framed.Framed.{frame_rights, framed_context, framed_step}
use Rattle.pass_proofs.proofs.run_laws.memory.Itself.{owner_rights_fit}
use Rattle.run_access_worked.proofs.run_laws_worked.Frames.{frame_rights_fit}
use Rattle.pass_proofs.specs.run_memory.Memory.{Rights}
use Rattle.pass_proofs.specs.run_source.Source.{context_of}
use Rattle.pass_proofs.specs.run_source.State.{settled, work_of}
use Rattle.pass_proofs.specs.run_source.declared.state.State.{State}
use Rattle.pass_proofs.specs.run_step.Step.{Work}

module _ (b : Building) (g : RenewedGiven) (given : AreGiven b g) (s t : State) (r : AreBuiltOf b s t) (i : Instr)
    (v : Work) (h : IsAtOrdinary b g s i v)
    (stands : StandsInPlace (b.framing s.top.func) s.top.block s.top.at
    (placed_line (b.framing s.top.func) (state_in (b.framing s.top.func) s.top.block s.top.at) i))
    (all : StoresLed (b.framing s.top.func) r.homes r.hides (context_of g.given s) (framed_context b.given t)
    (work_of s)
    (work_of t) v t.top i (placed_front (b.framing s.top.func) (state_in
    (b.framing s.top.func) s.top.block s.top.at) i)
    (placed_line (b.framing s.top.func) (state_in (b.framing s.top.func) s.top.block s.top.at) i))
    (spared : AreFieldsSpared b s t r) where
  abbrev x : Framing
  x = b.framing s.top.func

  abbrev R : Rights
  R = frame_rights b.given t.instances

  abbrev line : List Instr
  line = placed_line x (state_in x s.top.block s.top.at) i

  abbrev work : Work
  work = all.led.work

  abbrev P : Work → Type 0
  P u = u.world ≡ t.world

  running : t.outcome ≡ Outcome.Running
  running = runs b g given s t r i v h stands

  leads : iterate (framed_step b.given) (length line) t ≡ lined t (length line) work
  leads =
      line_leads b.given t P line work running (stand_there b g given s t r i v h stands)
      (gives b g given s t r i v h stands) all.runs

  left : LeavesRest b s t r v.world work.world
  left = store_left b s t r v.world work.world given.framings all.refilled all.keeps spared

  wheres : AreWheresRight x R work.world.memory (instance_in t.instances t.top.instance) t.top
  wheres = record {
    each = λ e listed.
        let q = (cells b g given s t r i v h).1.each e listed in record {
          block = q.block;
          address = q.address;
          own = q.own;
          bytes = q.bytes;
          sized = q.sized;
          holds = free_kept b s t r v.world work.world given.framings all.refilled all.keeps spared q.block
              (free b g given s t r i v h (record {
                alloca = e.cell;
                block =
                    q.block;
              }) q.own (where_is_name x e listed))
              0 (value_bytes ptr) q.bytes q.holds;
          has = q.has;
        };
  }

  on_way : (k : ℕ) → 0 < k → k < length line
      → IsOn b s (iterate (framed_step b.given) k t) ⊎ IsOn b (settled s v) (iterate (framed_step b.given) k t)
  on_way k pos lt =
      let z = each_between b.given t P line work running (stand_there b g given s t r i v h stands)
      (gives b g given s t r i v h stands) all.runs k lt in
      inl (subst (IsOn b s) (sym z.1.0) (still_shown b s t r given.framings running k z.0 z.1.1))

  pub store_followed : IsFollowed b g s t
  store_followed =
      finished b g given s t r i v h stands all.led left wheres
      (λ name align ty other. ahead_kept b s t r v.world work.world given.framings all.refilled all.keeps spared x t.top
      name align ty) leads on_way

pub stores_followed : (b : Building) (g : RenewedGiven) → AreGiven b g
    → (s t : State) (r : AreBuiltOf b s t) (arg : Arg)
    (p : Operand) (align : ℕ) (v : Work) → IsAtOrdinary b g s (Instr.Store arg p align) v → AreFieldsSpared b s t r
    → IsFollowed b g s t
stores_followed b g given s t r arg p align v h spared =
    store_followed b g given s t r (Instr.Store arg p align) v h
    (stands_there b g given s t r (Instr.Store arg p align) v h)
    (led_store (b.framing s.top.func) (is b g given s t r (Instr.Store arg p align) v h) r.homes r.hides
    (context_of g.given s) (framed_context b.given t) owner_rights_fit (frame_rights_fit b.given t.instances)
    (work_of s)
    (work_of t) v t.top (load_name (state_in (b.framing s.top.func) s.top.block s.top.at)) arg p align
    (placed_instr (b.framing s.top.func) (state_in (b.framing s.top.func) s.top.block s.top.at)
    (Instr.Store arg p align))
    (placed_front (b.framing s.top.func) (state_in (b.framing s.top.func) s.top.block s.top.at)
    (Instr.Store arg p align)) h.does (may b g given s t r (Instr.Store arg p align) v h)) spared

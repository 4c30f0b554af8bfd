-- Cells of the activation on top are filled: the rest is left.
use Rattle.std.proofs.Common.{◌≡◌, ◌<◌, ◌≤◌, ◌∙◌, arith, length, map, refl, subst, sym, true, ℕ}
use Rattle.std.specs.List.{Contains}
use Rattle.std.specs.Prelude.{slice_get}
use Rattle.pass_frames_code.specs.flow_solver.Paths.{IsListed}
use Rattle.pass_frames_code.specs.ir_model.Ty.{Ty, ptr}
use Rattle.pass_frames_code.specs.ir_model.declared.instr.Instr.{Instr}
use Rattle.pass_frames_code.specs.pass_copies.declared.slot.EarlySlot.{EarlySlot}
use Rattle.pass_frames_code.specs.pass_fetch.Fetching.{value_bytes}
use Rattle.pass_frames_steps.proofs.here.State.{cell_name, free}
use Rattle.pass_frames_code.proofs.lines.Cells.{other_block}
use Rattle.pass_frames_code.proofs.stepping.May.{own_blocks}
use Rattle.pass_frames_code.proofs.stepping.Names.{named_written, slots_new}
use Rattle.pass_frames_code.proofs.stepping.Rest.{LeavesRest, below_apart, stood_apart}
use Rattle.pass_frames_code.proofs.stepping.Same.{kept, rest_left}
use Rattle.pass_frames_code.specs.Framings.{IsFraming}
use Rattle.pass_frames_code.specs.Here.{IsOnLine}
use Rattle.pass_frames_code.specs.Led.{SparesBlocks}
use Rattle.pass_frames_code.specs.Lines.{IsCellOf}
use Rattle.pass_frames_code.specs.Places.{Framing, copies, named, written}
use Rattle.pass_frames_code.specs.Related.{AreBuiltOf, AreWheresRight, Building, IsAhead, instance_in, is_coroutine, slots_below}
use Rattle.pass_frames_code.specs.run_framed.Framed.{frame_rights}
use Rattle.pass_frames_code.specs.run_laws.memory.Pointers.{home_of}
use Rattle.pass_frames_code.specs.run_memory.Memory.{Rights}
use Rattle.pass_frames_code.specs.run_source.declared.state.State.{State}
use Rattle.pass_frames_code.specs.run_step.declared.world.Slot.{Slot}
use Rattle.pass_frames_code.specs.run_step.declared.world.World.{World}

module _ (b : Building) (s t : State) (r : AreBuiltOf b s t)
    (framings : (func : ℕ) → is_coroutine b func ≡ true → IsFraming (b.framing func)) (i : Instr)
    (h : IsOnLine b s.top i) (u : World)
    (spares : SparesBlocks (b.framing s.top.func) t.top t.world.memory u.memory) where
  abbrev x : Framing
  x = b.framing s.top.func

  abbrev R : Rights
  R = frame_rights b.given t.instances

  abbrev Touched : ℕ → Type 0
  Touched e = (slot : Slot) × Contains t.top.slots slot × IsCellOf x slot.alloca × (slot.block ≡ e)

  stood : (k : ℕ) → k < length s.world.memory → (home_of r.homes k).is_seen ≡ true
      → Touched (home_of r.homes k).block → ⊥
  stood k lt seen z =
      stood_apart b s t r z.0.block k
      (free b s t r framings i h z.0 z.1 (cell_name b s t r framings i h z.0.alloca z.2)) lt seen (sym z.3)

  others_apart : (k : ℕ) → IsListed k (map (λ (slot : Slot). slot.block) (slots_below t.below)) → Touched k → ⊥
  others_apart k l z =
      below_apart b s t r z.0 z.1
      (subst (λ (e : ℕ). IsListed e (map (λ (slot : Slot). slot.block) (slots_below t.below))) (sym z.3) l)

  same_blocks : (e : ℕ) → (Touched e → ⊥) → slice_get u.memory e ≡ slice_get t.world.memory e
  same_blocks e none = spares.same e (λ slot listed of same. none (slot, listed, of, same))

  pub cells_left : LeavesRest b s t r s.world u
  cells_left = rest_left b s t r s.world u Touched framings refl same_blocks stood others_apart

  -- the cells of addresses lie in other blocks than those of values
  pub wheres_left : AreWheresRight x R t.world.memory (instance_in t.instances t.top.instance) t.top
      → AreWheresRight x R u.memory (instance_in t.instances t.top.instance) t.top
  wheres_left k = record {
    each = λ e listed.
        let q = k.each e listed in record {
          block = q.block;
          address = q.address;
          own = q.own;
          bytes = q.bytes;
          sized = q.sized;
          holds = kept b s t r s.world u Touched framings refl same_blocks stood others_apart q.block
              (λ z. other_block t.top z.0.alloca e.cell z.0.block q.block (own_blocks t r.once) z.1 q.own
              (λ same. apart e listed z.0.alloca z.2 same) z.3)
              0 (value_bytes ptr) q.bytes q.holds;
          has = q.has;
        };
  }
    where
      apart : (e : EarlySlot) → Contains (copies x).slots e → (u : ℕ) → IsCellOf x u → u ≡ e.cell → ⊥
      apart e listed u of same =
          let lt : u < length (named x).names = of.1 in
          let high : length (written x).names ≤ e.cell = (slots_new x e listed).1 in
          let long : length (named x).names ≤ length (written x).names = named_written x in
          omega (arith, lt, high, long, same)

  pub ahead_left : (name align : ℕ) (ty : Ty) → ((v : ℕ) → IsCellOf x v → v ≡ name → ⊥)
      → IsAhead x r.homes r.hides s.world.memory t.world.memory t.top name ty align
      → IsAhead x r.homes r.hides s.world.memory u.memory t.top name ty align
  ahead_left v align ty other one = record {
    block = one.block;
    address = one.address;
    own = one.own;
    free = one.free;
    bytes = one.bytes;
    sized = one.sized;
    there = same_blocks one.block
        (λ z. other_block t.top z.0.alloca v z.0.block one.block (own_blocks t r.once) z.1 one.own
        (other z.0.alloca z.2) z.3)
        ∙ one.there;
  }

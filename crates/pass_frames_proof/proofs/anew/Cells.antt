-- Each alloca without markers that an activation makes on the way gives a cell, and those that were made still do.
use Rattle.std.proofs.Common.{◌≡◌, ◌⊎◌, ◌+◌, ◌-◌, ◌<◌, ◌≤◌, ◌++◌, ◌∙◌, List, Some, ap, arith, false, length, subst, sym, ℕ, ⊎_elim}
use Rattle.std.proofs.lemmas.Bool.{cases_lt}
use Rattle.std.specs.Prelude.{slice_get}
use Rattle.pass_frames_steps.specs.flow_solver.Paths.{IsListed}
use Rattle.pass_frames_steps.proofs.ir_laws.facts.Lists.{get_behind, get_front}
use Rattle.pass_frames_steps.proofs.ir_laws.facts.Members.{each_left, each_right}
use Rattle.pass_frames_steps.proofs.ir_laws.paths.edges.Lists.{different_left, different_right}
use Rattle.pass_frames_steps.proofs.ir_laws.paths.source_rules.Locals.{listed_left, listed_right}
use Rattle.pass_frames_steps.specs.ir_laws.paths.woven_rules.Pairs.{AreDifferent}
use Rattle.pass_frames_steps.specs.ir_model.Layout.{size_of}
use Rattle.pass_frames_steps.specs.ir_model.Ty.{Ty}
use Rattle.pass_frames_steps.specs.ir_model.declared.instr.Instr.{Instr}
use Rattle.pass_frames_steps.specs.ir_model.declared.module.Function.{Function}
use Rattle.pass_frames_steps.specs.ir_model.declared.module.Module.{Module}
use Rattle.pass_frames_steps.specs.ir_paths.Slots.{allocas_in}
use Rattle.pass_frames_steps.specs.pass_fetch.Fetching.{value_bytes}
use Rattle.pass_frames_proof.proofs.anew.Lists.{alloca_listed, allocas_apart, allocas_append}
use Rattle.pass_frames_proof.proofs.entering.Behind.{AreBehind, are_behind}
use Rattle.pass_frames_proof.proofs.entering.Cells.{cells_made}
use Rattle.pass_frames_steps.specs.Anew.{HasCellsMade, MakesLine}
use Rattle.pass_frames_steps.specs.Entering.{IsGoodAlloca, behind_allocas, front_allocas, made_blocks}
use Rattle.pass_frames_steps.specs.Places.{Framing, framed}
use Rattle.pass_frames_steps.specs.Related.{Anything, Building, IsCell}
use Rattle.pass_frames_steps.specs.run_framed.Framed.{frame_rights}
use Rattle.pass_frames_steps.proofs.run_laws.access.Held.{grown_held}
use Rattle.pass_frames_steps.specs.run_laws.access.Lines.{Holds}
use Rattle.pass_frames_steps.specs.run_laws.changed.Changed.{Each}
use Rattle.pass_frames_steps.specs.run_memory.Memory.{Rights}
use Rattle.pass_frames_steps.specs.run_memory.declared.block.MemoryBlock.{MemoryBlock}
use Rattle.pass_frames_steps.specs.run_source.State.{function_of}
use Rattle.pass_frames_steps.specs.run_source.declared.state.State.{State}
use Rattle.pass_frames_steps.specs.run_step.Step.{has_markers}

-- where none is made yet
pub none_made : (b : Building) (t : State) → t.top.at ≡ 0 → HasCellsMade b t
none_made b t zero = record {
  each = λ from label p name align ty mode lt there unmarked sized aligned.
      absurd (none p (subst (λ (n : ℕ). p < n) zero lt));
}
  where
    none : (p : ℕ) → p < 0 → ⊥
    none p lt = omega (arith, lt)

module _ (b : Building) (t : State) (is : List Instr) (h : MakesLine b t is) (cells : HasCellsMade b t) where
  abbrev x : Framing
  x = b.framing t.top.func

  abbrev R : Rights
  R = frame_rights b.given t.instances

  abbrev v : State
  v = behind_allocas b.given t is

  abbrev z : State
  z = record t {
    world = record t.world { memory = v.world.memory };
    top = record t.top { at = v.top.at; values = v.top.values; slots = v.top.slots };
  }

  good : Each IsGoodAlloca is
  good =
      each_left IsGoodAlloca is h.rest
      (each_right IsGoodAlloca h.before (is ++ h.rest) (subst (Each IsGoodAlloca) h.stands h.fronts.good))

  different_before : AreDifferent (allocas_in (h.before ++ (is ++ h.rest)))
  different_before = subst (λ (js : List Instr). AreDifferent (allocas_in js)) h.stands h.fronts.different

  different : AreDifferent (allocas_in is)
  different =
      different_left (allocas_in is) (allocas_in h.rest)
      (subst AreDifferent (allocas_append is h.rest)
      (different_right (allocas_in h.before) (allocas_in (is ++ h.rest))
      (subst AreDifferent (allocas_append h.before (is ++ h.rest)) different_before)))

  further : (u : ℕ) → IsListed u (allocas_in is) → IsListed u (allocas_in (is ++ h.rest))
  further u l =
      subst (IsListed u) (sym (allocas_append is h.rest)) (listed_left u (allocas_in is) (allocas_in h.rest) l)

  low : (u : ℕ) → IsListed u (allocas_in is) → u < length t.top.values
  low u l =
      subst (λ (m : ℕ). u < m) (sym h.room)
      (h.fronts.low u
      (subst (λ (js : List Instr). IsListed u (allocas_in js)) (sym h.stands)
      (subst (IsListed u) (sym (allocas_append h.before (is ++ h.rest)))
      (listed_right u (allocas_in h.before) (allocas_in (is ++ h.rest)) (further u l)))))

  made : AreBehind b.given t v is
  made = are_behind b.given t is good

  module _ (p name align : ℕ) (ty : Ty) (there : slice_get (front_allocas x) p ≡ Some (Instr.Alloca name ty align)) where
    there_too : slice_get (h.before ++ (is ++ h.rest)) p ≡ Some (Instr.Alloca name ty align)
    there_too = ap (λ (js : List Instr). slice_get js p) (sym h.stands) ∙ there

    earlier : p < length h.before → IsCell R t.world.memory t.top name ty Anything
        → IsCell R z.world.memory z.top name ty Anything
    earlier lt c = record {
      block = c.block;
      address =
          made.others name
          (λ l.
          allocas_apart h.before (is ++ h.rest) different_before name
          (alloca_listed h.before p name align ty (sym (get_front h.before (is ++ h.rest) p lt) ∙ there_too))
          (further name l))
          ∙ c.address;
      own = made.kept _ c.own;
      bytes = c.bytes;
      sized = c.sized;
      holds = subst (λ (m : List MemoryBlock). Holds R m c.block 0 (value_bytes ty) c.bytes) (sym made.memory)
          (grown_held R t.world.memory (made_blocks b.given.given.code (function_of b.given.given t) is) c.block 0
          (value_bytes ty) c.bytes c.holds);
      has = tt;
    }

    later : length h.before ≤ p → p - length h.before < length is → has_markers (framed x) name ≡ false
        → size_of b.framed_code ty ≡ value_bytes ty → value_bytes ty ≤ align
        → IsCell R z.world.memory z.top name ty Anything
    later le lt unmarked sized aligned =
        let j : ℕ = p - length h.before in
        let same : p ≡ length h.before + j = omega (arith, le) in
        let c = cells_made b.given t is good different low h.frames j name align ty
        (sym (get_front is h.rest j lt) ∙ sym (get_behind h.before (is ++ h.rest) j)
        ∙ ap (slice_get (h.before ++ (is ++ h.rest))) (sym same) ∙ there_too)
        (ap (λ (f : Function). has_markers f name) h.function ∙ unmarked)
        (ap (λ (m : Module). size_of m ty) h.code ∙ sized) aligned in
        record {
          block = c.block;
          address = c.address;
          own = c.own;
          bytes = c.bytes;
          sized = c.sized;
          holds = c.holds;
          has = tt;
        }

  pub made_on : HasCellsMade b v
  made_on = subst (HasCellsMade b) (sym made.state) (record {
    each = λ from label p name align ty mode lt there unmarked sized aligned. ⊎_elim
        (λ less.
        earlier p name align ty there less
        (cells.each from label p name align ty mode (let e = h.at in omega (arith, less, e)) there unmarked sized
        aligned))
        (λ le.
        later p name align ty there le
        (let e = h.at in let k : v.top.at ≡ t.top.at + length is = made.at in omega (arith, le, lt, e, k)) unmarked sized
        aligned) (cases_lt p (length h.before));
  })

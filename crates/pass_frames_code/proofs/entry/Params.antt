-- Parameters are stored into their cells, in which nothing is right before.
use Rattle.std.proofs.Common.{◌≡◌, inl, ℕ, zero, suc, List, [], ◌∷◌, ◌++◌, length, refl, sym, ap, subst, arith}
use Rattle.std.specs.Prelude.{None, replicate}
use Rattle.pass_proofs.specs.ir_model.Ty.{int}
use Rattle.pass_proofs.specs.ir_model.declared.instr.Instr.{Instr}
use Rattle.pass_proofs.specs.ir_model.declared.module.Param.{Param}
use Rattle.pass_proofs.specs.pass_cells.Written.{stored, stored_params}
use Rattle.pass_proofs.specs.pass_cells.declared.plan.Plan.{Plan}
use Rattle.pass_frames_code.proofs.lines.Cells.{cell_has}
use Rattle.pass_frames_code.proofs.lines.Stored.{names_stored}
use Rattle.pass_frames_code.specs.Framings.{IsFraming}
use Rattle.pass_frames_code.specs.Lines.{HasOwnBlocks, at_work}
use Rattle.pass_frames_code.specs.Places.{Framing, edged, plan}
use Rattle.pass_frames_code.specs.Related.{Anything, AreCellsRight, AreCellsThere, IsDistanceOf}
use Rattle.pass_frames_code.specs.Stores.{AreNamesStored, IsNameGiven, given_params, stored_all}
use Rattle.pass_proofs.specs.run_laws.changed.Changed.{Each}
use Rattle.pass_proofs.specs.run_laws.memory.Pointers.{Home, IsValue}
use Rattle.pass_proofs.specs.run_laws.memory.Standing.{AreByteRights}
use Rattle.pass_proofs.specs.run_memory.Memory.{Rights}
use Rattle.pass_proofs.specs.run_memory.declared.block.MemoryBlock.{MemoryBlock}
use Rattle.pass_proofs.specs.run_memory.declared.pointer.Value.{Value}
use Rattle.pass_proofs.specs.run_source.declared.state.Activation.{Activation}
use Rattle.pass_proofs.specs.run_step.Step.{Context, Work, entry_values, with_all, with_params}
use Rattle.pass_proofs.specs.run_step.Values.{Env, value_in, with_value}

none_there : (k v : ℕ) → value_in (replicate k None) v ≡ Value.Poison
none_there zero v = refl
none_there (suc k) zero = refl
none_there (suc k) (suc v) = none_there k v

-- where no name has a value any cell is right
cells_of_none : (x : Framing) (homes : List Home) (rights : Rights) (m : List MemoryBlock) (a : Activation) (k : ℕ)
    → AreCellsThere x rights m a → AreCellsRight x homes rights m (replicate k None) a
cells_of_none x homes rights m a k there = record {
  values = λ v j kept. cell_has rights m a j.cell j.ty Anything (IsValue homes (value_in (replicate k None) v))
      (λ u h. subst (λ (z : Value). IsValue homes z u) (sym (none_there k v)) tt) (there.values v j kept);
  distances = λ v cell slot e root. cell_has rights m a cell (int 64) Anything
      (IsDistanceOf (value_in (replicate k None) slot) (value_in (replicate k None) v))
      (λ u h. inl (none_there k v)) (there.distances v cell e);
}

params_env : (env : Env) (ps : List Param) (vs : List Value)
    → with_params env ps vs ≡ with_all env (given_params ps vs)
params_env env [] vs = refl
params_env env (p ∷ ps) [] = refl
params_env env (p ∷ ps) (v ∷ vs) = params_env (with_value env p.name v) ps vs

params_line : (p : Plan) (ps : List Param) (vs : List Value) → length vs ≡ length ps
    → stored_params p ps ≡ stored_all p (given_params ps vs)
params_line p [] vs e = refl
params_line p (x ∷ ps) [] e = absurd (omega (arith, e))
params_line p (x ∷ ps) (v ∷ vs) e =
    ap (λ (js : List Instr). stored p x.name ++ js) (params_line p ps vs (omega (arith, e)))

pub params_stored : (x : Framing) → IsFraming x → (homes : List Home) (c : Context) → AreByteRights c.rights
    → (a : Activation) (w : Work) (args : List Value) (n : ℕ) → HasOwnBlocks a
    → length args ≡ length (edged x).params → Each (IsNameGiven x homes w) (given_params (edged x).params args)
    → AreCellsThere x c.rights w.world.memory (at_work a w)
    → AreNamesStored x homes c w a (entry_values (edged x) args) n (stored_params (plan x) (edged x).params)
params_stored x is homes c law a w args n own long given there =
    let first : Env = replicate (length (edged x).names) None in
    let r : AreNamesStored x homes c w a (with_all first (given_params (edged x).params args)) n
    (stored_all (plan x) (given_params (edged x).params args)) =
    names_stored x is homes c law a n own (given_params (edged x).params args) first w given
    (cells_of_none x homes c.rights w.world.memory (at_work a w) (length (edged x).names) there) in
    subst (λ (env : Env). AreNamesStored x homes c w a env n (stored_params (plan x) (edged x).params))
    (sym (params_env first (edged x).params args))
    (subst
    (AreNamesStored x homes c w a (with_all first (given_params (edged x).params args)) n)
    (sym (params_line (plan x) (edged x).params args long)) r)

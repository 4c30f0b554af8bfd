-- In the worked run the activation that a destroy has called goes on at a label behind a suspend.
use Rattle.std.proofs.Common.{◌≡◌, ◌∙◌, ℕ, ap, inl, inr, refl, subst, sym}
use Rattle.pass_elide_apart.specs.Behind.{GoesBehind, IsBehindSuspend}
use Rattle.pass_elide_edges.specs.pass_elide_proof.pass_proofs.ir_model.Names.{function_at, position_of}
use Rattle.pass_elide_edges.specs.pass_elide_proof.pass_proofs.pass_kept_proof.Needed.{IsReached, after, along, first}
use Rattle.pass_elide_edges.specs.pass_elide_proof.pass_proofs.run_source.declared.state.Mode.{Mode}
use Rattle.pass_elide_edges.specs.pass_elide_proof.Worked.{a_caller, a_coroutine, before, module_of}

-- a path leads to the suspend
worked_reached : IsReached a_coroutine 6 7
worked_reached =
    after {block = 6} {at = 6} _ refl
    (after {block = 6} {at = 5} _ refl
    (after {block = 6} {at = 4} _ refl
    (after {block = 6} {at = 3} _ refl
    (after {block = 6} {at = 2} _ refl
    (after {block = 6} {at = 1} _ refl
    (after {block = 6} {at = 0} _ refl
    (along {block = 5} {at = 0} 10 refl
    (along {block = 4} {at = 1} 20 refl
    (after {block = 4} {at = 0} _ refl
    (along {block = 1} {at = 0} 5 refl
    (along {block = 0} {at = 3} 18 refl
    (after {block = 0} {at = 2} _ refl
    (after {block = 0} {at = 1} _ refl
    (after {block = 0} {at = 0} _ refl first))))))))))))))

-- the suspend stands in block 6, and the destroy edge leads to label 22
worked_label : IsBehindSuspend a_coroutine 6 22
worked_label = record {
  at = 7;
  reached = worked_reached;
  suspends = record { instr = _; stands = refl; is = refl };
  last = refl;
  edge = record { term = _; stands = refl; leads = inr (inr (inl refl)) };
  arg = _;
  default = 14;
  cases = _;
  is = refl;
}

top_func : (before 42).top.func ≡ 0
top_func = refl

top_block : (before 42).top.block ≡ 8
top_block = refl

top_at : (before 42).top.at ≡ 0
top_at = refl

top_mode : (before 42).top.mode ≡ Mode.Resumed
top_mode = refl

-- label 22 is that of block 8
there : position_of (function_at (module_of a_caller) 0) 22 ≡ 8
there = refl

pub worked_goes : GoesBehind (module_of a_caller) (before 42).top
worked_goes = record {
  from = 6;
  label = 22;
  behind = subst (λ (n : ℕ). IsBehindSuspend (function_at (module_of a_caller) n) 6 22) (sym top_func) worked_label;
  place = inr (
    top_mode,
    top_block
        ∙ (sym there ∙ ap (λ (n : ℕ). position_of (function_at (module_of a_caller) n) 22) (sym top_func)),
    top_at,
  );
}

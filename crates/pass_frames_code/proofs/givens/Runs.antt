-- What both runs are given is what steps ask: the framed module is the other one but for the coroutines.
use Rattle.std.proofs.Common.{◌≡◌, ◌∙◌, if◌then◌else◌, Bool, List, ap, false, sym, true, ℕ}
use Rattle.std.proofs.lemmas.List.{length-map}
use Rattle.std.specs.Prelude.{ℤ}
use Rattle.pass_proofs.specs.frame_layout.declared.layout.Layouts.{Layouts}
use Rattle.pass_proofs.specs.ir_model.Names.{first_where, function_at, same_name}
use Rattle.pass_proofs.specs.ir_model.declared.module.Declaration.{Declaration}
use Rattle.pass_proofs.specs.ir_model.declared.module.Frame.{Frame}
use Rattle.pass_proofs.specs.pass_edges.EdgeBlocks.{with_edge_blocks}
use Rattle.pass_frames_code.specs.Followed.{IsGiven}
use Rattle.pass_frames_code.specs.Framings.{IsFraming}
use Rattle.pass_frames_code.specs.Givens.{KeepsNames}
use Rattle.pass_frames_code.specs.Related.{AreBuilt, Building, is_coroutine}
use Rattle.pass_frames_code.specs.Stepping.{AreGiven}
use Rattle.pass_proofs.specs.pass_kept_proof.Kept.{Keep}
use Rattle.pass_proofs.proofs.edges.states.Parts.{function_moved, named_moved}
use Rattle.pass_proofs.specs.edges.states.MovedState.{edge_function, edges_split}
use Rattle.pass_renewed_proof.specs.Renewed.{Flags, Roots, renewed_given}
use Rattle.pass_proofs.specs.run_framed.Framed.{FramedGiven}

-- a function whose edges have blocks, where it is a coroutine or not
split_by : (b : Building) (func : ℕ) (c : Bool) → is_coroutine b func ≡ c
    → function_at (edges_split b.code) func
    ≡ (if c then with_edge_blocks (function_at b.code func) else function_at b.code func)
split_by b func c e =
    function_moved b.code func
    ∙ ap (λ (k : Bool). if k then with_edge_blocks (function_at b.code func) else function_at b.code func) e

pub given_runs : (b : Building) (layouts : Layouts) (keep : Keep) (flags : Flags) (roots : Roots) (sizes : List Frame)
    (answers : List ℤ) → AreBuilt b → IsGiven b layouts answers
    → ((func : ℕ) → is_coroutine b func ≡ true → IsFraming (b.framing func)) → KeepsNames b
    → AreGiven b (renewed_given (edges_split b.code) keep flags roots sizes answers)
given_runs b layouts keep flags roots sizes answers built is framings names = record {
  code = ap (λ (h : FramedGiven). h.given.code) is;
  answers = ap (λ (h : FramedGiven). h.given.answers) is;
  built = built;
  framings = framings;
  coroutines = λ func e. split_by b func true e ∙ ap with_edge_blocks (sym (built.coroutines func e).function);
  others = λ func e. split_by b func false e;
  functions = λ n. names.functions n ∙ sym (named_moved b.code n);
  declarations = λ n. ap (first_where (λ (d : Declaration). same_name d.name n)) names.declarations;
  globals = names.globals;
  count = names.count ∙ sym (length-map b.code.functions edge_function);
}

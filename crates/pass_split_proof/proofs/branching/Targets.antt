-- Where terminators lead, in a function and redirected in what becomes of it.
use Rattle.std.proofs.Common.{◌≡◌, ℕ, ◌<◌, inl, inr, ⊎_elim, Bool, true, false, List, [], ◌∷◌, length, map, refl, sym, ap, ◌∙◌, subst, arith}
use Rattle.std.specs.Prelude.{if◌then◌else◌}
use Rattle.pass_proofs.specs.flow_solver.Paths.{IsListed}
use Rattle.pass_proofs.specs.ir_base.declared.outcome.Word.{Word}
use Rattle.pass_proofs.proofs.ir_laws.paths.edges.Lists.{listed_at}
use Rattle.pass_proofs.specs.ir_model.declared.instr.Case.{Case}
use Rattle.pass_proofs.specs.ir_model.declared.instr.Terminator.{Terminator}
use Rattle.pass_proofs.specs.ir_model.declared.module.Function.{Function}
use Rattle.pass_proofs.specs.ir_model.declared.module.Module.{Module}
use Rattle.pass_proofs.specs.ir_paths.Paths.{targets}
use Rattle.pass_proofs.specs.pass_intrinsics.declared.shape.Part.{Part}
use Rattle.pass_proofs.specs.pass_intrinsics.declared.shape.Shape.{Shape}
use Rattle.pass_proofs.specs.pass_split.Pieces.{redirected, redirected_case}
use Rattle.pass_proofs.specs.rule_names.declared.stage.Stage.{Stage}
use Rattle.pass_split_proof.proofs.places.Labels.{plain_label_low, plain_target_known}
use Rattle.pass_split_proof.proofs.places.Transfers.{end_first}
use Rattle.pass_split_proof.specs.places.Places.{IsCodeOf, OfCoroutine, OfPlain, StartsWithEnd}
use Rattle.pass_proofs.proofs.rule_laws.rules.sources.Places.{term_there}
use Rattle.pass_proofs.specs.run_laws.changed.Changed.{Each}
use Rattle.pass_proofs.specs.run_memory.declared.pointer.Value.{Value}
use Rattle.pass_proofs.specs.run_step.Step.{AtTerm, fetch, is_word, target_of}
use Rattle.pass_proofs.specs.run_step.Values.{arg_value}

-- a choice between two labels, redirected
pub chosen_through : (s : Shape) (b : Bool) (x y : ℕ)
    → (if b then redirected s x else redirected s y) ≡ redirected s (if b then x else y)
chosen_through s true x y = refl
chosen_through s false x y = refl

pub one_listed : (b : Bool) (x y : ℕ) → IsListed (if b then x else y) (x ∷ y ∷ [])
one_listed true x y = inl refl
one_listed false x y = inr (inl refl)

-- the values of cases are the same in both modules
abbrev pub AreSameCases : Module → Module → List Case → Type 0
AreSameCases m n cases = Each (λ (k : Case). arg_value n [] k.arg ≡ arg_value m [] k.arg) cases

-- so a redirected switch goes where the redirected label leads
pub switch_through : (s : Shape) (m n : Module) (x : Word) (default : ℕ) (cases : List Case)
    → AreSameCases m n cases
    → target_of n x (redirected s default) (map (redirected_case s) cases) ≡ redirected s (target_of m x default cases)
switch_through s m n x default [] same = refl
switch_through s m n x default (k ∷ cases) same =
    ap (λ (v : Value). if is_word x v then redirected s k.target
    else target_of n x (redirected s default) (map (redirected_case s) cases)) same.0
    ∙ ap (λ (l : ℕ). if is_word x (arg_value m [] k.arg) then redirected s k.target else l)
    (switch_through s m n x default cases same.1)
    ∙ chosen_through s (is_word x (arg_value m [] k.arg)) k.target (target_of m x default cases)

chosen_listed : (b : Bool) (x y : ℕ) (rest : List ℕ) → IsListed y (x ∷ rest) → (k : ℕ)
    → IsListed (if b then k else y) (x ∷ k ∷ rest)
chosen_listed true x y rest listed k = inr (inl refl)
chosen_listed false x y rest listed k = ⊎_elim (λ e. inl e) (λ l. inr (inr l)) listed

pub target_listed : (m : Module) (x : Word) (default : ℕ) (cases : List Case)
    → IsListed (target_of m x default cases) (default ∷ map (λ k. k.target) cases)
target_listed m x default [] = inl refl
target_listed m x default (k ∷ cases) = chosen_listed (is_word x (arg_value m [] k.arg)) default
    (target_of m x default cases) (map (λ c. c.target) cases) (target_listed m x default cases) k.target

-- where an edge leads to the label of the end, the end stands first in its block
pub end_begins : (f q : Function) (s : Shape) (part : Part) (block at : ℕ) (term : Terminator) (label : ℕ)
    → IsCodeOf f q s part → fetch f block at ≡ AtTerm term → IsListed label (targets term) → label ≡ s.end
    → StartsWithEnd f label
end_begins f q _ _ block at term label (OfCoroutine m k layout begin part x is) here listed e
    = subst (StartsWithEnd f) (sym e) (end_first m k f begin layout x)
end_begins f q _ _ block at term label (OfPlain m k coroutine rules same) here listed e =
    let own = term_there f block at term here in
    let known = plain_target_known Stage.Plain m k f rules own.own label (listed_at f.blocks block own.own own.got)
    (subst (λ (t : Terminator). IsListed label (targets t)) (sym own.is) listed) in
    let low : known.block.label < length f.names = plain_label_low Stage.Plain m k f rules known.block known.listed in
    let is : known.block.label ≡ length f.names = known.has_label ∙ e in
    absurd (omega (arith, low, is))

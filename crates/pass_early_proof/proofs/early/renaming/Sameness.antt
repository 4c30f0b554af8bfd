-- A step of the renamed module is that of the module, where renamed values that are used are the same.
use Rattle.std.proofs.Common.{◌≡◌, ℕ, ◌+◌, Bool, true, false, List, [], ◌∷◌, length, refl, ap, ◌∙◌, subst}
use Rattle.std.specs.List.{list_any}
use Rattle.std.specs.Prelude.{ℤ, IsTrue, Some, None, Option, option_map, map, slice_get, unwrap_or, if◌then◌else◌, ◌==◌, ◌||◌}
use Rattle.rule_laws.specs.ir_base.declared.outcome.Place.{Place}
use Rattle.rule_laws.specs.run_source.Source.{enter_block, given, save_before}
use Rattle.rule_laws.specs.run_source.declared.state.State.{State}
use Rattle.pass_early_proof.proofs.early.renaming.Actions.{IsSame, same_operand}
use Rattle.rule_laws.proofs.ir_laws.facts.Members.{each_there}
use Rattle.rule_laws.proofs.ir_laws.facts.Truth.{itself, or_right}
use Rattle.run_states.proofs.renamed.Modules.{IsMild, function_there, length_same, operand_there}
use Rattle.pass_early_proof.proofs.early.renaming.Parts.{block_same, call_of_same, call_operand_same, instr_same, label_same, points_where_same, position_same}
use Rattle.pass_early_proof.proofs.early.renaming.Slots.{facts_same}
use Rattle.pass_early_proof.specs.early.renaming.Passes.{renamed_block, renamed_by_its_own, renamed_coroutine, renamed_function, renamed_module}
use Rattle.pass_early_proof.specs.early.renaming.Regular.{AreRegular, IsRegular}
use Rattle.rule_laws.specs.ir_laws.paths.renamed.Regular.{IsTaken}
use Rattle.pass_early.specs.Early.{renaming_of}
use Rattle.pass_early.specs.Renaming.{is_renamed, renamed, renamed_incoming, renamed_instr, renamed_phi}
use Rattle.pass_early.specs.declared.renaming.Renaming.{Renaming}
use Rattle.ir_model.specs.Names.{function_at, is_local, no_function, position_of}
use Rattle.ir_model.specs.declared.instr.Incoming.{Incoming}
use Rattle.ir_model.specs.declared.instr.Instr.{Instr}
use Rattle.ir_model.specs.declared.instr.Phi.{Phi}
use Rattle.ir_model.specs.declared.module.Block.{Block}
use Rattle.ir_model.specs.declared.module.Frame.{Frame}
use Rattle.ir_model.specs.declared.module.Function.{Function}
use Rattle.ir_model.specs.declared.module.Module.{Module}
use Rattle.ir_model.specs.declared.operand.Intrinsic.{Intrinsic}
use Rattle.ir_model.specs.declared.operand.Operand.{Operand}
use Rattle.rule_laws.specs.ir_paths.Facts.{all_facts, facts_of}
use Rattle.rule_laws.specs.ir_paths.Windows.{call_operand, instr_at, is_call_of}
use Rattle.rule_laws.specs.ir_paths.declared.point.Point.{Point}
use Rattle.rule_laws.specs.run_step.Step.{incoming_from, label_of, phi_values, phis_of, place_at, values_in, with_all}
use Rattle.rule_laws.specs.run_step.Values.{Env, operand_value, value_in}
use Rattle.rule_laws.specs.run_source_tables.Given.{Given, has_final, is_final, is_final_call, is_true}
use Rattle.rule_laws.specs.run_laws.changed.Changed.{Each}

-- ---- operands that are used

-- renamed names of a list of operands have the values of those that take their places
abbrev pub Agree : Renaming → Env → List Operand → Type 0
Agree r env xs = (n : ℕ) → is_renamed r n ≡ true → IsTrue (list_any (is_local n) xs) → value_in env r.to ≡ value_in env n

or_left : (a b : Bool) → IsTrue a → IsTrue (a || b)
or_left true b e = refl
or_left false b e = absurd (cc)

same_one : (r : Renaming) (env : Env) (x : Operand) → ((n : ℕ) → is_renamed r n ≡ true → IsTrue (is_local n x) → value_in env r.to ≡ value_in env n) → IsSame r env x
same_one r env (Operand.Local n) h = on (is_renamed r n) refl
  where
    on : (b : Bool) → is_renamed r n ≡ b → value_in env (if b then r.to else n) ≡ value_in env n
    on true e = h n e (itself n)
    on false e = refl
same_one r env (Operand.Global n) h = tt
same_one r env (Operand.Number z) h = tt
same_one r env Operand.True h = tt
same_one r env Operand.False h = tt
same_one r env Operand.Null h = tt
same_one r env Operand.None h = tt
same_one r env Operand.Poison h = tt

pub same_all : (r : Renaming) (env : Env) (xs : List Operand) → Agree r env xs → Each (IsSame r env) xs
same_all r env [] h = tt
same_all r env (x ∷ xs) h =
    (same_one r env x (λ n e k. h n e (or_left (is_local n x) (list_any (is_local n) xs) k)), same_all r env xs (λ n e k. h n e (or_right (is_local n x) (list_any (is_local n) xs) k)))

incoming_same : (r : Renaming) (xs : List Incoming) (label : ℕ) → incoming_from (map (renamed_incoming r) xs) label ≡ renamed r (incoming_from xs label)
incoming_same r [] label = refl
incoming_same r (x ∷ xs) label = on (x.from == label) (incoming_same r xs label)
  where
    on : (b : Bool) → incoming_from (map (renamed_incoming r) xs) label ≡ renamed r (incoming_from xs label) → (if b then renamed r x.value else incoming_from (map (renamed_incoming r) xs) label) ≡ renamed r (if b then x.value else incoming_from xs label)
    on true rest = refl
    on false rest = rest

-- the phis of a block that is entered from a label
phis_same : (r : Renaming) (m : Module) (env : Env) (label : ℕ) (phis : List Phi) → ((n : ℕ) → is_renamed r n ≡ true → IsTrue (list_any (λ p. is_local n (incoming_from p.incoming label)) phis) → value_in env r.to ≡ value_in env n) → phi_values m env label (map (renamed_phi r) phis) ≡ phi_values m env label phis
phis_same r m env label [] h = refl
phis_same r m env label (p ∷ phis) h =
    let x : Operand = incoming_from p.incoming label in
    let first : operand_value m env p.ty (incoming_from (map (renamed_incoming r) p.incoming) label) ≡ operand_value m env p.ty x =
    ap (operand_value m env p.ty) (incoming_same r p.incoming label)
    ∙ same_operand r m env p.ty x (same_one r env x (λ n e k. h n e (or_left (is_local n x) (list_any (λ q. is_local n (incoming_from q.incoming label)) phis) k))) in
    let rest = phis_same r m env label phis (λ n e k. h n e (or_right (is_local n x) (list_any (λ q. is_local n (incoming_from q.incoming label)) phis) k)) in
    λ k. (p.result, first k) ∷ rest k

values_same : (r : Renaming) (m : Module) (env : Env) (label : ℕ) (o : Option Block) → ((n : ℕ) → is_renamed r n ≡ true → IsTrue (list_any (λ p. is_local n (incoming_from p.incoming label)) (phis_of o)) → value_in env r.to ≡ value_in env n) → values_in m (option_map (renamed_block r) o) label env ≡ values_in m o label env
values_same r m env label None h = refl
values_same r m env label (Some b) h = ap (with_all env) (phis_same r m env label b.phis h)

pub true_same : (r : Renaming) (x : Operand) → is_true (renamed r x) ≡ is_true x
true_same r (Operand.Local n) = refl
true_same r (Operand.Global n) = refl
true_same r (Operand.Number z) = refl
true_same r Operand.True = refl
true_same r Operand.False = refl
true_same r Operand.Null = refl
true_same r Operand.None = refl
true_same r Operand.Poison = refl

pub final_same : (r : Renaming) (f : Function) (p : Point) → is_final (renamed_coroutine r f) p ≡ is_final f p
final_same r f p = ap is_final_call (instr_same r f p) ∙ on (instr_at f p)
  where
    on : (o : Option Instr) → is_final_call (option_map (renamed_instr r) o) ≡ is_final_call o
    on None = refl
    on (Some i) = ap is_true (call_operand_same r i 1) ∙ true_same r (call_operand i 1)

pub has_final_same : (r : Renaming) (f : Function) → has_final (renamed_coroutine r f) ≡ has_final f
has_final_same r f = λ k. list_any (λ p. final_same r f p k) (points_where_same r (is_call_of Intrinsic.CoroSuspend) (is_call_of Intrinsic.CoroSuspend) (call_of_same r Intrinsic.CoroSuspend) f k)

pub save_same : (r : Renaming) (s : State) (x : Operand) → save_before s (renamed r x) ≡ save_before s x
save_same r s (Operand.Local n) = refl
save_same r s (Operand.Global n) = refl
save_same r s (Operand.Number z) = refl
save_same r s Operand.True = refl
save_same r s Operand.False = refl
save_same r s Operand.Null = refl
save_same r s Operand.None = refl
save_same r s Operand.Poison = refl

pub place_same : (r : Renaming) (f : Function) (func block at : ℕ) → place_at func (renamed_coroutine r f) block at ≡ place_at func f block at
place_same r f func block at =
    ap (λ (o : Option Block). place_of_phis (length (phis_of o))) (block_same r f block) ∙ ap place_of_phis (on (slice_get f.blocks block))
  where
    place_of_phis : ℕ → Place
    place_of_phis n = record (place_at func f block at) { instr = Some (n + at) }

    on : (o : Option Block) → length (phis_of (option_map (renamed_block r) o)) ≡ length (phis_of o)
    on None = refl
    on (Some b) = length_same (renamed_phi r) b.phis

pub mild : IsMild renamed_function
mild = record { name = λ f. name f f.coroutine; result = λ f. result f f.coroutine; params = λ f. params f f.coroutine }
  where
    name : (f : Function) (b : Bool) → (if b then renamed_by_its_own f else f).name ≡ f.name
    name f true = refl
    name f false = refl

    result : (f : Function) (b : Bool) → (if b then renamed_by_its_own f else f).result ≡ f.result
    result f true = refl
    result f false = refl

    params : (f : Function) (b : Bool) → (if b then renamed_by_its_own f else f).params ≡ f.params
    params f true = refl
    params f false = refl

-- ---- the two modules

module _ (m : Module) (ok : AreRegular m) (sizes : List Frame) (answers : List ℤ) where
  abbrev m2 : Module
  m2 = renamed_module m

  abbrev the : ℕ → Function
  the func = function_at m func

  -- what is the same of a renamed coroutine is the same of the function at a position
  pub by_function : {A : Type 0} (P : Function → A) (func : ℕ) → ((the func).coroutine ≡ true → P (renamed_by_its_own (the func)) ≡ P (the func)) → P (function_at m2 func) ≡ P (the func)
  by_function P func h = ap P (function_there renamed_function mild m refl func) ∙ on (the func).coroutine refl
    where
      on : (b : Bool) → (the func).coroutine ≡ b → P (if b then renamed_by_its_own (the func) else the func) ≡ P (the func)
      on true e = h e
      on false e = refl

  facts_by : (n : ℕ) (f : Function) → slice_get m.functions n ≡ Some f → facts_of (renamed_function f) ≡ facts_of f
  facts_by n f e = on f.coroutine refl
    where
      is : the n ≡ f
      is = ap (λ (o : Option Function). unwrap_or o no_function) e

      on : (b : Bool) → f.coroutine ≡ b → facts_of (if b then renamed_by_its_own f else f) ≡ facts_of f
      on true h = facts_same (renaming_of f) f (subst (λ (x : Function). IsRegular x (renaming_of x)) is (ok n (ap (λ (x : Function). x.coroutine) is ∙ h)))
      on false h = refl

  map_facts : (fs : List Function) → Each (λ f. facts_of (renamed_function f) ≡ facts_of f) fs → map facts_of (map renamed_function fs) ≡ map facts_of fs
  map_facts [] h = refl
  map_facts (f ∷ fs) h = λ k. h.0 k ∷ map_facts fs h.1 k

  pub facts_all : all_facts m2 ≡ all_facts m
  facts_all = map_facts m.functions (each_there (λ f. facts_of (renamed_function f) ≡ facts_of f) m.functions facts_by)

  abbrev g : Given
  g = given m sizes answers

  -- the renamed module with the facts of the module
  abbrev h : Given
  h = record { code = m2; sizes = sizes; answers = answers; facts = all_facts m }

  -- ---- entering a block

  -- the values that the phis behind an edge take are the same
  abbrev pub AgreeOn : ℕ → Env → ℕ → ℕ → Type 0
  AgreeOn func env block label =
      (the func).coroutine ≡ true → (n : ℕ) → is_renamed (renaming_of (the func)) n ≡ true → IsTaken (the func) n block label → value_in env (renaming_of (the func)).to ≡ value_in env n

  abbrev entered : State → ℕ → Module → Function → State
  entered s label code f =
      record s { top = record s.top { block = position_of f label; at = 0; values = values_in code (slice_get f.blocks (position_of f label)) (label_of (slice_get f.blocks s.top.block)) s.top.values } }

  entered_there : (s : State) (label : ℕ) (f : Function) → entered s label m2 f ≡ entered s label m f
  entered_there s label f = λ k.
      record s { top = record s.top { block = position_of f label; at = 0; values = with_all s.top.values (map (λ p. (p.result, operand_there renamed_function mild m s.top.values p.ty (incoming_from p.incoming (label_of (slice_get f.blocks s.top.block))) k)) (phis_of (slice_get f.blocks (position_of f label)))) } }

  entered_renamed : (s : State) (label : ℕ) (r : Renaming) (f : Function) → ((n : ℕ) → is_renamed r n ≡ true → IsTaken f n s.top.block label → value_in s.top.values r.to ≡ value_in s.top.values n) → entered s label m (renamed_coroutine r f) ≡ entered s label m f
  entered_renamed s label r f agree =
      let b : ℕ = position_of f label in
      (λ k. entered_by (position_same r f label k) (slice_get (renamed_coroutine r f).blocks (position_same r f label k)) (slice_get (renamed_coroutine r f).blocks s.top.block))
      ∙ (λ k. entered_by b (block_same r f b k) (block_same r f s.top.block k))
      ∙ ap (λ (l : ℕ). entered_at b l (option_map (renamed_block r) (slice_get f.blocks b))) (label_same r (slice_get f.blocks s.top.block))
      ∙ ap (λ (env : Env). record s { top = record s.top { block = b; at = 0; values = env } }) (values_same r m s.top.values (label_of (slice_get f.blocks s.top.block)) (slice_get f.blocks b) agree)
    where
      entered_at : ℕ → ℕ → Option Block → State
      entered_at b l o = record s { top = record s.top { block = b; at = 0; values = values_in m o l s.top.values } }

      entered_by : ℕ → Option Block → Option Block → State
      entered_by b o from = entered_at b (label_of from) o

  pub enter_same : (s : State) (label : ℕ) → AgreeOn s.top.func s.top.values s.top.block label → enter_block h s label ≡ enter_block g s label
  enter_same s label agree =
      entered_there s label (function_at m2 s.top.func)
      ∙ by_function (entered s label m) s.top.func (λ e. entered_renamed s label (renaming_of (the s.top.func)) (the s.top.func) (agree e))

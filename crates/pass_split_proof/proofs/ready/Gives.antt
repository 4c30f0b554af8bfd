-- No call of a source's framed form gives a frame: nothing has the name of a ramp that is given one (N3).
use Rattle.std.proofs.Common.{◌≡◌, ℕ, zero, suc, Bool, true, false, List, [], ◌∷◌, ◌++◌, length, refl, sym, ap, ◌∙◌}
use Rattle.std.proofs.lemmas.Bool.{false≢true}
use Rattle.std.proofs.lemmas.List.Folds.{list_any-append}
use Rattle.std.specs.List.{list_any}
use Rattle.std.proofs.lemmas.Option.{slice_get-map}
use Rattle.std.specs.Prelude.{None, Option, Some, codes, is_some, option_map, slice_get, ◌&&◌, ◌||◌, ◌==◌, if◌then◌else◌}
use Rattle.pass_proofs.specs.frame_layout.declared.layout.Layouts.{Layouts}
use Rattle.pass_proofs.specs.ir_base.declared.name.Name.{Name}
use Rattle.pass_proofs.proofs.ir_laws.facts.Truth.{same_name-itself}
use Rattle.pass_proofs.proofs.ir_laws.facts.same_names.Lists.{what_is_found}
use Rattle.pass_proofs.specs.ir_laws.facts.same_names.Short.{HaveShortNames}
use Rattle.pass_proofs.specs.ir_model.Names.{declaration_named, function_named, global_named, noalloc_of, same_name}
use Rattle.pass_proofs.specs.ir_model.declared.instr.Instr.{Instr}
use Rattle.pass_proofs.specs.ir_model.declared.module.Block.{Block}
use Rattle.pass_proofs.specs.ir_model.declared.module.Declaration.{Declaration}
use Rattle.pass_proofs.specs.ir_model.declared.module.Function.{Function}
use Rattle.pass_proofs.specs.ir_model.declared.module.GlobalItem.{GlobalItem}
use Rattle.pass_proofs.specs.ir_model.declared.module.Module.{Module}
use Rattle.pass_proofs.specs.ir_model.declared.operand.Callee.{Callee}
use Rattle.pass_proofs.proofs.ir_tables.Tables.{same_name-same}
use Rattle.pass_proofs.specs.pass_exits.ExitBlocks.{with_exit_blocks}
use Rattle.pass_proofs.specs.exits.states.Exits.{exit_function, exits_split}
use Rattle.pass_proofs.specs.pass_split.Given.{called_by, called_from, called_in, called_names, has_given_call}
use Rattle.pass_proofs.specs.pass_split.declared.given.CalledName.{CalledName}
use Rattle.pass_split_proof.proofs.code.Positions.{named_before}
use Rattle.pass_split_proof.proofs.ready.Callees.{callee_known}
use Rattle.pass_split_proof.specs.simulation.Given.{GivesNoFrame}
use Rattle.pass_proofs.specs.rule_laws.rules.function_rules.Kept.{KeepsFunctionRules}
use Rattle.pass_proofs.specs.rule_laws.rules.plain_rules.Items.{KeepsItemRules}
use Rattle.pass_proofs.specs.rule_names.Known.{knows_name}
use Rattle.pass_proofs.specs.rule_names.Reserved.{is_odd, is_part, is_part_of, is_reserved, part_name, suffixes}
use Rattle.pass_proofs.specs.rule_names.declared.stage.Stage.{Stage}
use Rattle.pass_proofs.specs.run_step.Step.{AtInstr, fetch, fetch_in, fetch_or}
use Rattle.pass_proofs.proofs.rule_laws.rules.function_rules.Stages.{rules_larger}

-- ---- no instruction calls what passes a test

neither : (a b : Bool) → a ≡ false → b ≡ false → (a || b) ≡ false
neither true b e d = absurd (false≢true (sym e))
neither false b e d = d

module _ (test : CalledName → Bool) where
  abbrev Calls : List CalledName → Type 0
  Calls names = list_any test names ≡ false

  both : (xs ys : List CalledName) → Calls xs → Calls ys → Calls (xs ++ ys)
  both xs ys a b = list_any-append test xs ys ∙ neither (list_any test xs) (list_any test ys) a b

  none_in : (is : List Instr) → ((at : ℕ) (i : Instr) → slice_get is at ≡ Some i → Calls (called_by i))
      → Calls (called_in is)
  none_in [] h = refl
  none_in (i ∷ is) h = both (called_by i) (called_in is) (h 0 i refl) (none_in is (λ at j e. h (suc at) j e))

  none_from : (bs : List Block) → ((k : ℕ) (b : Block) → slice_get bs k ≡ Some b → Calls (called_in b.instrs))
      → Calls (called_from bs)
  none_from [] h = refl
  none_from (b ∷ bs) h =
      both (called_in b.instrs) (called_from bs) (h 0 b refl) (none_from bs (λ k c e. h (suc k) c e))

  none_of : (fs : List Function) → ((k : ℕ) (f : Function) → slice_get fs k ≡ Some f → Calls (called_from f.blocks))
      → Calls (called_names fs)
  none_of [] h = refl
  none_of (f ∷ fs) h =
      both (called_from f.blocks) (called_names fs) (h 0 f refl) (none_of fs (λ k g e. h (suc k) g e))

-- ---- nothing has the name of a part

among : (x : Name) (f : Function) (fs : List Function) (j : ℕ) → slice_get fs j ≡ Some f → is_part_of x f ≡ true
    → list_any (is_part_of x) fs ≡ true
among x f [] j d h = absurd (cc)
among x f (g ∷ fs) zero d h =
    let same : g ≡ f = cc in
    ap (λ (b : Bool). b || list_any (is_part_of x) fs) (ap (is_part_of x) same ∙ h)
among x f (g ∷ fs) (suc j) d h = later (is_part_of x g) (among x f fs j d h)
  where
    later : (b : Bool) → list_any (is_part_of x) fs ≡ true → (b || list_any (is_part_of x) fs) ≡ true
    later true r = refl
    later false r = r

part_is_part : (f : Function) → f.coroutine ≡ true → is_part_of (noalloc_of f.name) f ≡ true
part_is_part f coroutine =
    ap (λ (b : Bool). b && list_any (λ t. same_name (part_name f.name t) (noalloc_of f.name)) suffixes) coroutine
    ∙ last (same_name (part_name f.name (codes ".resume")) (noalloc_of f.name))
    (same_name (part_name f.name (codes ".destroy")) (noalloc_of f.name))
    (same_name (part_name f.name (codes ".cleanup")) (noalloc_of f.name)) _ (same_name-itself (noalloc_of f.name))
  where
    last : (a b c d : Bool) → d ≡ true → (a || (b || (c || (d || false)))) ≡ true
    last true b c d h = refl
    last false true c d h = refl
    last false false true d h = refl
    last false false false d h = ap (λ (t : Bool). t || false) h

module _ (m : Module) (rules : KeepsItemRules Stage.Source m) (x : Name) (part : is_part m x ≡ true) where
  of_same : (y : Name) → y ≡ x → is_part m y ≡ true
  of_same y e = ap (is_part m) e ∙ part

  no_function : (o : Option ℕ) → function_named m x ≡ o → is_some o ≡ false
  no_function None e = refl
  no_function (Some k) e =
      let y = what_is_found (λ (f : Function). same_name f.name x) m.functions k e in
      absurd (free (is_reserved y.element.name) (is_part m y.element.name) (y.element.coroutine && is_odd y.element.name)
      (of_same y.element.name (same_name-same y.element.name x y.passes)) (rules.names.free k y.element y.stands))
    where
      free : (a b c : Bool) → b ≡ true → (a || (true && (b || c))) ≡ false → ⊥
      free true b c h r = absurd (false≢true (sym r))
      free false true c h r = absurd (false≢true (sym r))
      free false false c h r = absurd (false≢true h)

  no_declaration : (o : Option ℕ) → declaration_named m x ≡ o → is_some o ≡ false
  no_declaration None e = refl
  no_declaration (Some k) e =
      let y = what_is_found (λ (d : Declaration). same_name d.name x) m.declarations k e in
      absurd (false≢true (sym (rules.reserved.declarations k y.element y.stands)
      ∙ of_same y.element.name (same_name-same y.element.name x y.passes)))

  no_global : (o : Option ℕ) → global_named m x ≡ o → is_some o ≡ false
  no_global None e = refl
  no_global (Some k) e =
      let y = what_is_found (λ (g : GlobalItem). same_name g.name x) m.globals k e in
      absurd (free (is_reserved y.element.name) (is_part m y.element.name)
      (of_same y.element.name (same_name-same y.element.name x y.passes))
      (rules.reserved.globals k y.element y.stands))
    where
      free : (a b : Bool) → b ≡ true → (a || (true && b)) ≡ false → ⊥
      free true b h r = absurd (false≢true (sym r))
      free false b h r = absurd (false≢true (sym r ∙ h))

  unknown : knows_name m x ≡ false
  unknown =
      neither (is_some (function_named m x)) _ (no_function (function_named m x) refl)
      (neither (is_some (declaration_named m x)) (is_some (global_named m x))
      (no_declaration (declaration_named m x) refl) (no_global (global_named m x) refl))

-- nothing has the name of a ramp that is given its frame
pub unknown_ramp : (m : Module) → KeepsItemRules Stage.Source m → (k : ℕ) (f : Function)
    → slice_get m.functions k ≡ Some f → f.coroutine ≡ true → knows_name m (noalloc_of f.name) ≡ false
unknown_ramp m rules k f there coroutine =
    unknown m rules (noalloc_of f.name) (among (noalloc_of f.name) f m.functions k there (part_is_part f coroutine))

-- ---- calls

module _ (n : Module) (k : ℕ) (g : Function) (rules : KeepsFunctionRules n k g) (x : Name)
    (unknown_in : knows_name n x ≡ false) where
  abbrev test : CalledName → Bool
  test c = same_name x c.name

  not_called : (block at : ℕ) (i : Instr) → fetch g block at ≡ AtInstr i → list_any test (called_by i) ≡ false
  not_called block at (Instr.Call result must_tail ty (Callee.Named y) args) here = on (same_name x y) refl
    where
      on : (b : Bool) → same_name x y ≡ b → (b || false) ≡ false
      on false e = refl
      on true e = absurd (false≢true (sym unknown_in ∙ ap (knows_name n) (same_name-same x y e)
          ∙ callee_known n k g (rules_larger Stage.Source n k g rules) block at result must_tail ty args y here))
  not_called block at _ here = refl

fetched : (f : Function) (block at : ℕ) (b : Block) (i : Instr) → slice_get f.blocks block ≡ Some b
    → slice_get b.instrs at ≡ Some i → fetch f block at ≡ AtInstr i
fetched f block at b i got here =
    ap (λ (o : Option Block). fetch_in o at) got
    ∙ ap (λ (o : Option Instr). fetch_or o (at == length b.instrs) b.term) here

module _ (ls : Layouts) (m : Module) (rules : KeepsItemRules Stage.Source m) (short : HaveShortNames m)
    (kept : (k : ℕ) (f : Function) → slice_get (exits_split m).functions k ≡ Some f
    → KeepsFunctionRules (exits_split m) k f) where
  module _ (k : ℕ) (f : Function) (there : slice_get m.functions k ≡ Some f) (coroutine : f.coroutine ≡ true) where
    abbrev x : Name
    x = noalloc_of f.name

    unknown_there : knows_name (exits_split m) x ≡ false
    unknown_there =
        ap (λ (o : Option ℕ). is_some o || (is_some (declaration_named m x) || is_some (global_named m x)))
        (named_before ls m rules short x)
        ∙ unknown_ramp m rules k f there coroutine

    pub none_gives : list_any (λ (c : CalledName). same_name x c.name) (called_names (exits_split m).functions) ≡ false
    none_gives =
        none_of (λ (c : CalledName). same_name x c.name) (exits_split m).functions
        (λ j g got. none_from (λ (c : CalledName). same_name x c.name) g.blocks
        (λ block b stands. none_in (λ (c : CalledName). same_name x c.name) b.instrs
        (λ at i here. not_called (exits_split m) j g (kept j g got) x unknown_there block at i
        (fetched g block at b i stands here))))

  pub gives_none : GivesNoFrame (exits_split m)
  gives_none k g there c = on (slice_get m.functions k) refl (sym (slice_get-map exit_function m.functions k) ∙ there)
    where
      same_kind : (b : Bool) (f : Function) → (if b then with_exit_blocks f else f).coroutine ≡ f.coroutine
      same_kind true f = refl
      same_kind false f = refl

      same_name_of : (b : Bool) (f : Function) → (if b then with_exit_blocks f else f).name ≡ f.name
      same_name_of true f = refl
      same_name_of false f = refl

      on : (o : Option Function) → slice_get m.functions k ≡ o → option_map exit_function o ≡ Some g
          → has_given_call (exits_split m) g ≡ false
      on None e d = absurd (cc)
      on (Some f) e d =
          let same : exit_function f ≡ g = cc in
          let marked : f.coroutine ≡ true = sym (same_kind f.coroutine f) ∙ ap (λ (h : Function). h.coroutine) same ∙ c in
          ap (λ (y : Name). list_any (λ (c : CalledName). same_name (noalloc_of y) c.name)
          (called_names (exits_split m).functions))
          (sym (ap (λ (h : Function). h.name) same) ∙ same_name_of f.coroutine f)
          ∙ none_gives k f e marked

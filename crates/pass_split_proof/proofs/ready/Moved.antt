-- The names of a source's framed form move where its coroutines are split.
use Rattle.std.proofs.Common.{◌≡◌, ℕ, zero, suc, Bool, true, false, List, [], ◌∷◌, refl, sym, ap, ◌∙◌}
use Rattle.std.proofs.lemmas.Bool.{false≢true}
use Rattle.std.specs.List.{list_any}
use Rattle.std.specs.Prelude.{None, Option, Some, codes, is_some, slice_get, ◌&&◌, ◌||◌}
use Rattle.pass_proofs.specs.frame_layout.declared.layout.Layouts.{Layouts}
use Rattle.pass_proofs.specs.ir_base.declared.name.Name.{Name}
use Rattle.pass_proofs.proofs.ir_laws.facts.Truth.{same_name-itself}
use Rattle.pass_proofs.proofs.ir_laws.facts.same_names.Lists.{what_is_found}
use Rattle.pass_proofs.specs.ir_laws.facts.same_names.Short.{HaveShortNames}
use Rattle.pass_proofs.specs.ir_model.Names.{function_named, global_named, same_name}
use Rattle.pass_proofs.specs.ir_model.declared.module.Function.{Function}
use Rattle.pass_proofs.specs.ir_model.declared.module.Module.{Module}
use Rattle.pass_proofs.proofs.ir_tables.Tables.{same_name-same}
use Rattle.pass_proofs.specs.exits.states.Exits.{exits_split}
use Rattle.pass_split_proof.proofs.code.Positions.{found_by_name, name_moves, named_before, others_stay}
use Rattle.pass_split_proof.specs.ready.Names.{HasMovedNames}
use Rattle.pass_proofs.specs.rule_laws.rules.plain_rules.Items.{KeepsItemRules}
use Rattle.pass_proofs.specs.rule_names.Reserved.{is_odd, is_part, is_part_of, is_reserved, part_name, suffixes}
use Rattle.pass_proofs.specs.rule_names.declared.stage.Stage.{Stage}

module _ (ls : Layouts) (m : Module) (rules : KeepsItemRules Stage.Source m) (short : HaveShortNames m) where
  -- a function has a name that is no global's (N1)
  no_global : (x : Name) (k : ℕ) → function_named m x ≡ Some k → is_some (global_named m x) ≡ false
  no_global x k e =
      let y = what_is_found (λ (f : Function). same_name f.name x) m.functions k e in
      let called : y.element.name ≡ x = same_name-same y.element.name x y.passes in
      ap (λ (n : Name). is_some (global_named m n)) (sym called)
      ∙ first (is_some (global_named m y.element.name)) _ (rules.names.once k y.element y.stands)
    where
      first : (a b : Bool) → (a || b) ≡ false → a ≡ false
      first true b e = absurd (false≢true (sym e))
      first false b e = refl

  apart : (x : Name) → is_some (global_named m x) ≡ true → function_named (exits_split m) x ≡ None
  apart x global = named_before ls m rules short x ∙ on (function_named m x) refl
    where
      on : (o : Option ℕ) → function_named m x ≡ o → o ≡ None
      on None e = refl
      on (Some k) e = absurd (false≢true (sym (no_global x k e) ∙ global))

  pub names_moved : HasMovedNames ls (exits_split m)
  names_moved = record {
    functions = name_moves ls m rules short;
    others = others_stay ls m rules short;
    parts = found_by_name ls m rules short;
    apart = apart;
  }

  -- no function has the name of a coroutine's cleanup (N3)
  pub cleanup_untaken : (k : ℕ) (f : Function) → slice_get m.functions k ≡ Some f → f.coroutine ≡ true
      → function_named (exits_split m) (part_name f.name (codes ".cleanup")) ≡ None
  cleanup_untaken k f e coroutine = named_before ls m rules short (part_name f.name (codes ".cleanup"))
      ∙ on (function_named m (part_name f.name (codes ".cleanup"))) refl
    where
      own : (x : Name) → x ≡ part_name f.name (codes ".cleanup") → is_part_of x f ≡ true
      own x same = ap (λ (b : Bool). b && list_any (λ t. same_name (part_name f.name t) x) suffixes) coroutine
          ∙ ap (λ (y : Name). list_any (λ t. same_name (part_name f.name t) y) suffixes) same
          ∙ third (same_name (part_name f.name (codes ".resume")) (part_name f.name (codes ".cleanup")))
          (same_name (part_name f.name (codes ".destroy")) (part_name f.name (codes ".cleanup"))) _ _
          (same_name-itself (part_name f.name (codes ".cleanup")))
        where
          third : (a b c d : Bool) → c ≡ true → (a || (b || (c || d))) ≡ true
          third true b c d h = refl
          third false true c d h = refl
          third false false c d h = ap (λ (t : Bool). t || d) h

      among : (fs : List Function) (j : ℕ) → slice_get fs j ≡ Some f → (x : Name) → is_part_of x f ≡ true
          → list_any (is_part_of x) fs ≡ true
      among [] j d x h = absurd (cc)
      among (g ∷ fs) zero d x h =
          let same : g ≡ f = cc in
          ap (λ (b : Bool). b || list_any (is_part_of x) fs) (ap (is_part_of x) same ∙ h)
      among (g ∷ fs) (suc j) d x h = later (is_part_of x g) (among fs j d x h)
        where
          later : (b : Bool) → list_any (is_part_of x) fs ≡ true → (b || list_any (is_part_of x) fs) ≡ true
          later true r = refl
          later false r = r

      on : (o : Option ℕ) → function_named m (part_name f.name (codes ".cleanup")) ≡ o → o ≡ None
      on None d = refl
      on (Some j) d =
          let y = what_is_found (λ (g : Function). same_name g.name (part_name f.name (codes ".cleanup")))
          m.functions j d in
          let called = same_name-same y.element.name (part_name f.name (codes ".cleanup")) y.passes in
          let free = rules.names.free j y.element y.stands in
          let taken = among m.functions k e y.element.name (own y.element.name called) in
          absurd (no (is_reserved y.element.name) (is_part m y.element.name)
          (y.element.coroutine && is_odd y.element.name)
          taken free)
        where
          no : (a b c : Bool) → b ≡ true → (a || (true && (b || c))) ≡ false → ⊥
          no true b c h r = absurd (false≢true (sym r))
          no false true c h r = absurd (false≢true (sym r))
          no false false c h r = absurd (false≢true h)

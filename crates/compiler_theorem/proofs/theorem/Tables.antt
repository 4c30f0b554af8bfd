-- The analyses' answers give tables of what a resume hands on and of the slots that its activation makes anew.
use Rattle.std.proofs.Common.{◌≡◌, ◌⊎◌, inl, inr, ⊎_elim, ℕ, ◌+◌, ◌<◌, Bool, true, false, List, [], ◌∷◌, length}
use Rattle.std.proofs.Common.{refl, sym, ap, ◌∙◌, subst, Option, Some, None}
use Rattle.std.specs.Prelude.{◌↔◌, IsTrue, map, slice_get, ◌==◌, ◌||◌}
use Rattle.compiler_theorem.proofs.theorem.Facts.{good_layouts}
use Rattle.compiler_theorem.proofs.theorem.Needed.{named_in, some_class, stands_at}
use Rattle.compiler_theorem.proofs.theorem.Roots.{one_root}
use Rattle.compiler_theorem.specs.theorem.Anew.{Anew, IsAnewIn, IsAnewOf, IsMemorySlot, IsSlotOf}
use Rattle.compiler_theorem.specs.theorem.Lowered.{IsLowered, Lowered, early}
use Rattle.compiler.specs.flow_solver.Paths.{IsListed}
use Rattle.compiler.specs.frame_classes.Classes.{AreClasses, IsOf, suspends}
use Rattle.compiler.specs.frame_classes.declared.class.SlotClass.{SlotClass}
use Rattle.compiler.specs.frame_contents.Frames.{AreContents}
use Rattle.compiler.specs.frame_contents.declared.contents.Contents.{Contents}
use Rattle.compiler.specs.frame_crossing.Crossing.{AreCrossed, AreCrossing, CrossedBy, Crosses, LeftOut, More, NoMore, Nothing, Taken}
use Rattle.compiler.specs.frame_crossing.Crossing.{suspends_of}
use Rattle.compiler.specs.frame_crossing.Values.{values_of}
use Rattle.compiler.proofs.frame_good.Frames.{layouts_found}
use Rattle.compiler.proofs.frame_slots.Points.{PassesAt, where_sound}
use Rattle.compiler.proofs.ir_laws.facts.Lists.{below}
use Rattle.compiler.proofs.ir_laws.facts.Truth.{equal_numbers, itself}
use Rattle.compiler.specs.ir_model.Names.{function_at, no_function}
use Rattle.compiler.specs.ir_model.declared.instr.Instr.{Instr}
use Rattle.compiler.specs.ir_model.declared.module.Function.{Function}
use Rattle.compiler.specs.ir_model.declared.module.Module.{Module}
use Rattle.compiler.specs.ir_model.declared.operand.Intrinsic.{Intrinsic}
use Rattle.compiler.proofs.ir_paths.Search.{or_left, same_point-itself, same_point-same}
use Rattle.compiler.specs.ir_paths.Paths.{has_point, same_point}
use Rattle.compiler.specs.ir_paths.Slots.{addresses_of, allocas_of, has_name, is_gep}
use Rattle.compiler.specs.ir_paths.Windows.{instr_at, is_call_of, points_where}
use Rattle.compiler.specs.ir_paths.declared.point.Point.{Point}
use Rattle.compiler.specs.pass_edges.EdgeBlocks.{with_edge_blocks}
use Rattle.compiler.proofs.pass_kept_proof.Read.{listed_by_name}
use Rattle.compiler.proofs.pass_proofs.early.save_simulation.Suspending.{fetch_at}
use Rattle.compiler.proofs.pass_proofs.edges.paths.Points.{points_moved}
use Rattle.compiler.proofs.pass_proofs.edges.paths.Slots.{same_allocas}
use Rattle.compiler.proofs.pass_proofs.edges.rules.Kept.{crossing_kept, rules_kept}
use Rattle.compiler.proofs.pass_proofs.kept.sources.Modules.{at_function, early_has_shape, early_rules}
use Rattle.compiler.proofs.pass_proofs.kept.sources.Names.{none_outside, suspend_inside}
use Rattle.compiler.specs.pass_proofs.edges.paths.Spots.{moved}
use Rattle.compiler.specs.rule_laws.rules.function_rules.Kept.{KeepsFunctionRules}
use Rattle.compiler.proofs.rule_laws.rules.source_rules.Slots.{alloca_of}
use Rattle.compiler.specs.rule_shape.Switches.{wrong_switch}
use Rattle.compiler.specs.run_framed.Framed.{begin_name}

-- ---- what is decided

abbrev Decided : Type 0 → Type 0
Decided A = A ⊎ (A → ⊥)

abbrev yes : {A : Type 0} → A ⊎ (A → ⊥) → Bool
yes (inl x) = true
yes (inr x) = false

yes_forth : {A : Type 0} (d : A ⊎ (A → ⊥)) → yes d ≡ true → A
yes_forth (inl x) e = x
yes_forth (inr x) e = absurd (cc)

yes_back : {A : Type 0} (d : A ⊎ (A → ⊥)) → A → yes d ≡ true
yes_back (inl x) a = refl
yes_back (inr x) a = absurd (x a)

dec_or : {A B : Type 0} → A ⊎ (A → ⊥) → B ⊎ (B → ⊥) → (A ⊎ B) ⊎ (A ⊎ B → ⊥)
dec_or (inl a) e = inl (inl a)
dec_or (inr a) (inl b) = inl (inr b)
dec_or (inr a) (inr b) = inr (λ c. ⊎_elim a b c)

dec_named : (vs : List ℕ) (v : ℕ) → IsListed v vs ⊎ (IsListed v vs → ⊥)
dec_named vs v = on (has_name vs v) refl
  where
    on : (b : Bool) → has_name vs v ≡ b → IsListed v vs ⊎ (IsListed v vs → ⊥)
    on true e = inl (listed_by_name vs v e)
    on false e = inr (λ l. let yes_too : true ≡ false = sym (named_in v vs l) ∙ e in absurd (cc))

dec_some : (o : Option ℕ) (v : ℕ) → (o ≡ Some v) ⊎ (o ≡ Some v → ⊥)
dec_some None v = inr (λ e. absurd (cc))
dec_some (Some u) v = on (u == v) refl
  where
    same : Some u ≡ Some v → u ≡ v
    same e = cc

    on : (b : Bool) → (u == v) ≡ b → (Some u ≡ Some v) ⊎ (Some u ≡ Some v → ⊥)
    on true e = inl (ap Some (equal_numbers u v e))
    on false e = inr (λ d. let yes_too : true ≡ false = sym (itself u) ∙ ap (λ (n : ℕ). u == n) (same d) ∙ e in absurd (cc))

-- ---- classes

module _ (f : Function) (v : ℕ) where
  dec_class : (is class : SlotClass) → IsOf f v is → IsOf f v class ⊎ (IsOf f v class → ⊥)
  dec_class SlotClass.Ramp SlotClass.Ramp h = inl h
  dec_class SlotClass.Ramp SlotClass.Local h = inr (λ c. c.0 h)
  dec_class SlotClass.Ramp SlotClass.Frame h = inr (λ c. c.0 h)
  dec_class SlotClass.Local SlotClass.Ramp h = inr (λ c. h.0 c)
  dec_class SlotClass.Local SlotClass.Local h = inl h
  dec_class SlotClass.Local SlotClass.Frame h = inr (λ c. h.1 c.1)
  dec_class SlotClass.Frame SlotClass.Ramp h = inr (λ c. h.0 c)
  dec_class SlotClass.Frame SlotClass.Local h = inr (λ c. c.1 h.1)
  dec_class SlotClass.Frame SlotClass.Frame h = inl h

  dec_slot : f.coroutine ≡ true → (classes : List SlotClass) → AreClasses f classes → (class : SlotClass)
      → IsSlotOf f class v ⊎ (IsSlotOf f class v → ⊥)
  dec_slot coroutine classes are class = on (dec_named (allocas_of f) v)
    where
      by : IsListed v (allocas_of f) → IsOf f v class ⊎ (IsOf f v class → ⊥)
          → IsSlotOf f class v ⊎ (IsSlotOf f class v → ⊥)
      by l (inl is) = inl (record { coroutine = coroutine; is_alloca = named_in v (allocas_of f) l; is_of = is })
      by l (inr no_class) = inr (λ s. no_class s.is_of)

      on : IsListed v (allocas_of f) ⊎ (IsListed v (allocas_of f) → ⊥) → IsSlotOf f class v ⊎ (IsSlotOf f class v → ⊥)
      on (inl l) =
          let at = stands_at v (allocas_of f) l in
          let c = some_class classes at.at (subst (λ (n : ℕ). at.at < n) (sym are.count)
          (below (allocas_of f) at.at v at.there)) in
          by l (dec_class c.0 class (are.each at.at v c.0 at.there c.1))
      on (inr none) = inr (λ s. none (listed_by_name (allocas_of f) v s.is_alloca))

-- ---- crossing values

listed_point : (ps : List Point) (s : Point) → has_point ps s ≡ true → IsListed s ps
listed_point [] s h = absurd (cc)
listed_point (p ∷ ps) s h = on (same_point s p) refl h (listed_point ps s)
  where
    on : (b : Bool) → same_point s p ≡ b → (b || has_point ps s) ≡ true → (has_point ps s ≡ true → IsListed s ps)
        → IsListed s (p ∷ ps)
    on true e k rest = inl (same_point-same s p e)
    on false e k rest = inr (rest k)

module _ (g : Function) (s : Point) where
  dec_one : (v k : ℕ) (ss : List Point) (all : List (ℕ × ℕ)) → AreCrossed g v k ss all → IsListed s ss
      → Crosses g v s ⊎ (Crosses g v s → ⊥)
  dec_one v _ _ _ (NoMore k) l = absurd l
  dec_one v _ _ _ (Taken k x ss all crosses rest) (inl e) = inl (subst (Crosses g v) (sym e) crosses)
  dec_one v _ _ _ (Taken k x ss all crosses rest) (inr l) = dec_one v (k + 1) ss all rest l
  dec_one v _ _ _ (LeftOut k x ss all never rest) (inl e) = inr (λ c. never (subst (Crosses g v) e c))
  dec_one v _ _ _ (LeftOut k x ss all never rest) (inr l) = dec_one v (k + 1) ss all rest l

  dec_by : IsListed s (suspends_of g) → (v : ℕ) (vs : List ℕ) (all : List (ℕ × ℕ)) → CrossedBy g vs all → IsListed v vs
      → Crosses g v s ⊎ (Crosses g v s → ⊥)
  dec_by suspend v _ _ Nothing l = absurd l
  dec_by suspend v _ _ (More u vs here rest first more) (inl e) =
      dec_one v 0 (suspends_of g) here (subst (λ (n : ℕ). AreCrossed g n 0 (suspends_of g) here) (sym e) first) suspend
  dec_by suspend v _ _ (More u vs here rest first more) (inr l) = dec_by suspend v vs rest more l

  dec_crosses : (crossing : List (ℕ × ℕ)) → AreCrossing g crossing → IsListed s (suspends_of g) → (v : ℕ)
      → Crosses g v s ⊎ (Crosses g v s → ⊥)
  dec_crosses crossing are suspend v = ⊎_elim (λ l. dec_by suspend v (values_of g) crossing are l)
      (λ (none : IsListed v (values_of g) → ⊥). inr (λ c. none c.is_value)) (dec_named (values_of g) v)

-- ---- a function

record Tables (f : Function) : Type 0 where
  keep : Point → ℕ → Bool
  flags : ℕ → Bool
  roots : ℕ → Option ℕ
  are : IsAnewIn f (with_edge_blocks f) (λ s v. IsTrue (keep s v)) (λ v. IsTrue (flags v)) (λ v a. roots v ≡ Some a)

-- one that is no coroutine has no suspends
plain_tables : (f : Function) → f.coroutine ≡ false
    → ((s : Point) → has_point (suspends (with_edge_blocks f)) s ≡ true → ⊥) → Tables f
plain_tables f plain none = record {
  keep = λ s v. false;
  flags = λ v. false;
  roots = λ v. None;
  are = record {
    flags_are = λ a. (λ e. absurd (no_truth e), λ x. absurd (no_truth (sym plain ∙ x.coroutine)));
    roots_are = λ v a. (λ e. absurd (no_root a e), λ x. absurd (no_truth x.0));
    keep_is = λ s v is. absurd (none s is);
  };
}
  where
    no_truth : false ≡ true → ⊥
    no_truth e = absurd (cc)

    no_root : (a : ℕ) → None ≡ Some a → ⊥
    no_root a e = absurd (cc)

module _ (m : Module) (k : ℕ) (f : Function) (rules : KeepsFunctionRules m k f) (coroutine : f.coroutine ≡ true)
    (switches : wrong_switch k f ≡ None) (c : Contents) (contents : AreContents m f c) where
  abbrev g : Function
  g = with_edge_blocks f

  slot : (class : SlotClass) (v : ℕ) → IsSlotOf f class v ⊎ (IsSlotOf f class v → ⊥)
  slot class v = dec_slot f v coroutine c.classes contents.classes_are class

  -- ---- roots

  abbrev Root : ℕ → ℕ → Type 0
  Root v a = IsSlotOf f SlotClass.Local a × IsTrue (has_name (addresses_of (with_edge_blocks f) a) v)

  abbrev RootIn : ℕ → List ℕ → Type 0
  RootIn v slots = (a : ℕ) × (IsListed a slots × Root v a)

  dec_root : (v a : ℕ) → Root v a ⊎ (Root v a → ⊥)
  dec_root v a = on (slot SlotClass.Local a) (has_name (addresses_of (with_edge_blocks f) a) v) refl
    where
      on : IsSlotOf f SlotClass.Local a ⊎ (IsSlotOf f SlotClass.Local a → ⊥) → (b : Bool)
          → has_name (addresses_of (with_edge_blocks f) a) v ≡ b → Root v a ⊎ (Root v a → ⊥)
      on (inl x) true e = inl (x, e)
      on (inl x) false e = inr (λ r. let both : true ≡ false = sym r.1 ∙ e in absurd (cc))
      on (inr x) b e = inr (λ r. x r.0)

  dec_roots : (v : ℕ) (slots : List ℕ) → RootIn v slots ⊎ (RootIn v slots → ⊥)
  dec_roots v [] = inr (λ x. x.1.0)
  dec_roots v (a ∷ slots) = on (dec_root v a) (dec_roots v slots)
    where
      neither : (Root v a → ⊥) → (RootIn v slots → ⊥) → RootIn v (a ∷ slots) → ⊥
      neither one rest x = ⊎_elim (λ (same : x.0 ≡ a). one (subst (Root v) same x.1.1)) (λ l. rest (x.0, (l, x.1.1))) x.1.0

      on : Root v a ⊎ (Root v a → ⊥) → RootIn v slots ⊎ (RootIn v slots → ⊥)
          → RootIn v (a ∷ slots) ⊎ (RootIn v (a ∷ slots) → ⊥)
      on (inl r) d = inl (a, (inl refl, r))
      on (inr one) (inl x) = inl (x.0, (inr x.1.0, x.1.1))
      on (inr one) (inr rest) = inr (neither one rest)

  abbrev root_from : (v : ℕ) (slots : List ℕ) → RootIn v slots ⊎ (RootIn v slots → ⊥) → Option ℕ
  root_from v slots (inl x) = Some x.0
  root_from v slots (inr x) = None

  root_forth : (v a : ℕ) (slots : List ℕ) (d : RootIn v slots ⊎ (RootIn v slots → ⊥)) → root_from v slots d ≡ Some a → Root v a
  root_forth v a slots (inl x) e = let same : x.0 ≡ a = cc in subst (Root v) same x.1.1
  root_forth v a slots (inr x) e = absurd (cc)

  listed_now : (a : ℕ) → IsListed a (allocas_of f) → IsListed a (allocas_of (with_edge_blocks f))
  listed_now a l = subst (IsListed a) (sym (same_allocas f)) l

  same_root : (v a b : ℕ) → Root v a → Root v b → a ≡ b
  same_root v a b x y = one_root m k (with_edge_blocks f) (rules_kept m k f rules)
      (length (points_where is_gep (with_edge_blocks f))) (length (points_where is_gep (with_edge_blocks f))) a b v
      (alloca_of (with_edge_blocks f) a (listed_now a (listed_by_name (allocas_of f) a x.0.is_alloca)))
      (alloca_of (with_edge_blocks f) b (listed_now b (listed_by_name (allocas_of f) b y.0.is_alloca)))
      (listed_by_name (addresses_of (with_edge_blocks f) a) v x.1)
      (listed_by_name (addresses_of (with_edge_blocks f) b) v y.1)

  root_back : (v a : ℕ) (d : RootIn v (allocas_of f) ⊎ (RootIn v (allocas_of f) → ⊥)) → Root v a
      → root_from v (allocas_of f) d ≡ Some a
  root_back v a (inl x) r = ap Some (same_root v x.0 a x.1.1 r)
  root_back v a (inr none) r = absurd (none (a, (listed_by_name (allocas_of f) a r.0.is_alloca, r)))

  -- ---- what is handed on

  abbrev Handed : Point → ℕ → Type 0
  Handed s v = Crosses (with_edge_blocks f) v s ⊎ ((begin_name (with_edge_blocks f) ≡ Some v) ⊎ IsMemorySlot f v)

  dec_handed : (s : Point) → IsListed s (suspends_of (with_edge_blocks f)) → (v : ℕ) → Handed s v ⊎ (Handed s v → ⊥)
  dec_handed s suspend v =
      dec_or (dec_crosses (with_edge_blocks f) s c.crossing
      ((crossing_kept m k f rules coroutine switches c.crossing).0 contents.crossing_are) suspend v)
      (dec_or (dec_some (begin_name (with_edge_blocks f)) v)
      (dec_or (slot SlotClass.Local v) (slot SlotClass.Frame v)))

  abbrev keep_by : (s : Point) (v : ℕ) (b : Bool) → has_point (suspends (with_edge_blocks f)) s ≡ b → Bool
  keep_by s v true e = yes (dec_handed s (listed_point (suspends (with_edge_blocks f)) s e) v)
  keep_by s v false e = false

  kept_by : (s : Point) (v : ℕ) → has_point (suspends (with_edge_blocks f)) s ≡ true → (b : Bool)
      (e : has_point (suspends (with_edge_blocks f)) s ≡ b) → (keep_by s v b e ≡ true) ↔ Handed s v
  kept_by s v is true e =
      let d = dec_handed s (listed_point (suspends (with_edge_blocks f)) s e) v in (
        λ x. yes_forth d x,
        λ x. yes_back d x,
      )
  kept_by s v is false e = let both : true ≡ false = sym is ∙ e in absurd (cc)

  coroutine_tables : Tables f
  coroutine_tables = record {
    keep = λ s v. keep_by s v (has_point (suspends (with_edge_blocks f)) s) refl;
    flags = λ v. yes (slot SlotClass.Local v);
    roots = λ v. root_from v (allocas_of f) (dec_roots v (allocas_of f));
    are = record {
      flags_are = λ a. (λ e. yes_forth (slot SlotClass.Local a) e, λ x. yes_back (slot SlotClass.Local a) x);
      roots_are = λ v a. (
        λ e. let r = root_forth v a (allocas_of f) (dec_roots v (allocas_of f)) e in
            (yes_back (slot SlotClass.Local a) r.0, r.1),
        λ x. root_back v a (dec_roots v (allocas_of f)) (yes_forth (slot SlotClass.Local a) x.0, x.1),
      );
      keep_is = λ s v is. kept_by s v is (has_point (suspends (with_edge_blocks f)) s) refl;
    };
  }

-- ---- functions without suspends

no_suspends : (f : Function) → ((p : Point) → has_point (suspends f) p ≡ true → ⊥) → (s : Point)
    → has_point (suspends (with_edge_blocks f)) s ≡ true → ⊥
no_suspends f none s h = on (suspends f) refl
    (ap (λ (ps : List Point). has_point ps s) (sym (points_moved (is_call_of Intrinsic.CoroSuspend) f)) ∙ h)
  where
    on : (ps : List Point) → suspends f ≡ ps → has_point (map (moved f) (suspends f)) s ≡ true → ⊥
    on [] e k = let no : has_point (map (moved f) []) s ≡ true = ap (λ (ps : List Point). has_point (map (moved f) ps) s)
        (sym e) ∙ k in absurd (cc)
    on (p ∷ ps) e k = none p (ap (λ (qs : List Point). has_point qs p) e
        ∙ or_left (same_point p p) (has_point ps p) (same_point-itself p))

-- ---- an accepted source

module _ (l : Lowered) (low : IsLowered l) where
  in_plain : (k : ℕ) (f : Function) → slice_get (early l).functions k ≡ Some f → f.coroutine ≡ false → (p : Point)
      → has_point (suspends f) p ≡ true → ⊥
  in_plain k f there plain p h = on (instr_at f p) refl (where_sound (is_call_of Intrinsic.CoroSuspend) f p h)
    where
      on : (o : Option Instr) → instr_at f p ≡ o → PassesAt (is_call_of Intrinsic.CoroSuspend) o → ⊥
      on o e x = none_outside (early l) k f (early_rules l.text l.source low.source.stands low.source.accepted k f there)
          plain p.block p.at x.instr Intrinsic.CoroSuspend suspend_inside
          (fetch_at f p x.instr (e ∙ x.is)) x.passes

  tables_at : (k : ℕ) (f : Function) → slice_get (early l).functions k ≡ Some f → Tables f
  tables_at k f there = on f.coroutine refl
    where
      on : (b : Bool) → f.coroutine ≡ b → Tables f
      on true c =
          let good = (layouts_found (early l) l.layouts.coroutines k f (good_layouts l low) there c).is_good in
          coroutine_tables (early l) k f
          (early_rules l.text l.source low.source.stands low.source.accepted k f there) c
          (early_has_shape l.text l.source low.source.stands low.source.accepted k f there).switches
          good.contents good.contents_are
      on false c = plain_tables f c (no_suspends f (in_plain k f there c))

  tables : (func : ℕ) → Tables (function_at (early l) func)
  tables = at_function Tables (early l) (plain_tables no_function refl (no_suspends no_function (λ p h. absurd (cc))))
      tables_at

  pub source_tables : (a : Anew) × IsAnewOf (early l) a
  source_tables = (
    record {
      keep = λ func s v. (tables func).keep s v;
      flags = λ func v. (tables func).flags v;
      roots = λ func v. (tables func).roots v;
    },
    λ func. (tables func).are,
  )

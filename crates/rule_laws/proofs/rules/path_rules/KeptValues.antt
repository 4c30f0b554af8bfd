-- Values made in windows and used behind them (rule K7), by saves and values.
use Rattle.std.proofs.Common.{◌≡◌, ◌⊎◌, inl, inr, ℕ, suc, true, List, [], ◌∷◌, refl, sym, ap, ◌∙◌, subst}
use Rattle.std.specs.List.{cons_option}
use Rattle.std.specs.Prelude.{Some, None, Option, filter_map, map, option_map, slice_get}
use Rattle.flow_blocks.specs.Edges.{block_edges}
use Rattle.ir_laws.specs.ir_base.declared.outcome.Place.{Place}
use Rattle.rule_uses.specs.Uses.{Use, use_of, uses_of, values_at}
use Rattle.rule_laws.proofs.rules.renamed.Outside.{none_breaks}
use Rattle.ir_laws.proofs.paths.renamed.Outside.{where_pass}
use Rattle.rule_laws.proofs.rules.path_rules.Holding.{HoldsOf, first_none, of_parts}
use Rattle.rule_laws.proofs.rules.path_rules.Windows.{IsAlike, NoWrongWindow, inside_back, leads_back}
use Rattle.ir_laws.proofs.paths.path_rules.Windows.{is_save}
use Rattle.ir_laws.proofs.facts.Options.{passing_is}
use Rattle.ir_laws.specs.flow_solver.Paths.{IsListed}
use Rattle.ir_parts.specs.Contents.{result_of}
use Rattle.ir_parts.specs.Parts.{Part, parts_of}
use Rattle.ir_laws.specs.ir_model.declared.instr.Instr.{Instr}
use Rattle.ir_laws.specs.ir_model.declared.instr.Phi.{Phi}
use Rattle.ir_laws.specs.ir_model.declared.module.Block.{Block}
use Rattle.ir_laws.specs.ir_model.declared.module.Function.{Function}
use Rattle.ir_laws.proofs.ir_paths.Search.{either, or_left, or_right, same_point-itself, same_point-same}
use Rattle.ir_laws.specs.ir_paths.Paths.{has_point, same_point}
use Rattle.ir_laws.specs.ir_paths.Windows.{IsInWindow, end_block, instr_at, instr_in, points_where, suspend_of}
use Rattle.ir_laws.specs.ir_paths.declared.point.Point.{Point}
use Rattle.ir_laws.specs.run_laws.changed.Changed.{Each}
use Rattle.rule_windows.specs.Windows.{Between, Call, NotOne, ends_window_at}
use Rattle.rule_all.specs.rule_window_values.Kept.{AtSuspend, BreaksValue, ByInstr, ByPhi, InBlock, Inside, IsFirstKept, IsFrontIn, IsKept, IsMadeIn, IsUsedBehind, Next, OnEdge, Own, ReachesBehind, TakesFrom, front, own_blocks, phi_results, phis_in}
use Rattle.ir_laws.proofs.paths.woven_rules.Unbroken.{each_listed as each_of}

-- ---- the rule, by saves and values

pub record NoneKept (func : ℕ) (f : Function) : Type 0 where
  pub each : (k s : Point) (v : ℕ) → has_point (points_where is_save f) k ≡ true → suspend_of f k ≡ Some s → IsMadeIn f k s v → IsUsedBehind func f s v → ⊥

pub of_each : {A : Type 0} (P : A → Type 0) (xs : List A) (y : A) → Each P xs → IsListed y xs → P y
of_each P [] y h l = absurd l
of_each P (x ∷ xs) y h (inl e) = subst P (sym e) h.0
of_each P (x ∷ xs) y h (inr l) = of_each P xs y h.1 l

module _ (f : Function) where
  abbrev pairs : List Point → List (Point × Point)
  pairs ks = filter_map (λ save. option_map (λ suspend. (save, suspend)) (suspend_of f save)) ks

  from_pairs : (ks : List Point) (k s : Point) → IsListed (k, s) (pairs ks) → (has_point ks k ≡ true) × (suspend_of f k ≡ Some s)
  from_pairs [] k s l = absurd l
  from_pairs (x ∷ ks) k s l = on (suspend_of f x) refl l (from_pairs ks k s)
    where
      more : (has_point ks k ≡ true) × (suspend_of f k ≡ Some s) → (has_point (x ∷ ks) k ≡ true) × (suspend_of f k ≡ Some s)
      more h = (or_right (same_point k x) (has_point ks k) h.0, h.1)

      on : (o : Option Point) → suspend_of f x ≡ o → IsListed {X = Point × Point} (k, s) (cons_option (option_map (λ suspend. (x, suspend)) o) (pairs ks)) → (IsListed {X = Point × Point} (k, s) (pairs ks) → (has_point ks k ≡ true) × (suspend_of f k ≡ Some s)) → (has_point (x ∷ ks) k ≡ true) × (suspend_of f k ≡ Some s)
      on None e h again = more (again h)
      on (Some t) e (inl same) again =
          let one : k ≡ x = ap (λ (p : Point × Point). p.0) same in
          let two : s ≡ t = ap (λ (p : Point × Point). p.1) same in
          (or_left (same_point k x) (has_point ks k) (ap (λ (y : Point). same_point y x) one ∙ same_point-itself x), ap (suspend_of f) one ∙ e ∙ ap Some (sym two))
      on (Some t) e (inr h) again = more (again h)

  to_pairs : (ks : List Point) (k s : Point) → has_point ks k ≡ true → suspend_of f k ≡ Some s → IsListed {X = Point × Point} (k, s) (pairs ks)
  to_pairs [] k s h e = absurd (cc)
  to_pairs (x ∷ ks) k s h e = on (either (same_point k x) (has_point ks k) h) (λ r. to_pairs ks k s r e)
    where
      later : (o : Option Point) → IsListed {X = Point × Point} (k, s) (pairs ks) → IsListed {X = Point × Point} (k, s) (cons_option (option_map (λ suspend. (x, suspend)) o) (pairs ks))
      later None l = l
      later (Some t) l = inr l

      on : (same_point k x ≡ true) ⊎ (has_point ks k ≡ true) → (has_point ks k ≡ true → IsListed {X = Point × Point} (k, s) (pairs ks)) → IsListed {X = Point × Point} (k, s) (pairs (x ∷ ks))
      on (inl h) again =
          let one : k ≡ x = same_point-same k x h in
          subst (λ (o : Option Point). IsListed {X = Point × Point} (k, s) (cons_option (option_map (λ suspend. (x, suspend)) o) (pairs ks))) (sym (ap (suspend_of f) (sym one) ∙ e))
          (inl (ap (λ (y : Point). (y, s)) one))
      on (inr h) again = later (suspend_of f x) (again h)

phi_listed : (ps : List Phi) (v : ℕ) → IsListed v (map (λ p. p.result) ps) → (j : ℕ) × ((p : Phi) × ((slice_get ps j ≡ Some p) × (p.result ≡ v)))
phi_listed [] v l = absurd l
phi_listed (p ∷ ps) v (inl e) = (0, (p, (refl, sym e)))
phi_listed (p ∷ ps) v (inr l) = let x = phi_listed ps v l in (suc x.0, x.1)

module _ (func : ℕ) (f : Function) where
  abbrev Fine : Place × Part → Type 0
  Fine x = BreaksValue func f x → ⊥

  pub to_kept : NoneKept func f → IsFirstKept func f None
  to_kept h =
      first_none (BreaksValue func f) (λ x. x.0) (parts_of func f)
      (each_of Fine (parts_of func f) (λ x l breaks.
      let kept = breaks.is_kept in
      let pair = from_pairs f (points_where is_save f) kept.save kept.suspend kept.is_save in
      h.each kept.save kept.suspend breaks.value pair.0 pair.1 kept.is_made kept.is_used))

  pub of_kept : f.coroutine ≡ true → IsFirstKept func f None → NoneKept func f
  of_kept coroutine none =
      let parts = of_parts Fine func f (none_breaks (BreaksValue func f) (λ x. x.0) (parts_of func f) none) in
      record { each = λ k s v there suspend made used. on parts v made (record { save = k; suspend = s; is_save = to_pairs f (points_where is_save f) k s there suspend; is_made = made; is_used = used }) }
    where
      by_instr : HoldsOf Fine func f → (v : ℕ) → IsKept func f v → (p : Point) (i : Instr) → instr_at f p ≡ Some i → result_of i ≡ Some v → (o : Option Block) → slice_get f.blocks p.block ≡ o → ⊥
      by_instr parts v kept p i e r None d = let none : None ≡ Some i = sym (ap (λ (o : Option Block). instr_in o p.at) d) ∙ e in cc
      by_instr parts v kept p i e r (Some b) d =
          (parts.blocks p.block b d).instrs p.at i (sym (ap (λ (o : Option Block). instr_in o p.at) d) ∙ e)
          (record { is_coroutine = coroutine; value = v; makes = r; is_kept = kept })

      by_phi : HoldsOf Fine func f → (v : ℕ) → IsKept func f v → (block : ℕ) → (o : Option Block) → slice_get f.blocks block ≡ o → IsListed v (map (λ p. p.result) (phis_in o)) → ⊥
      by_phi parts v kept block None d l = absurd l
      by_phi parts v kept block (Some b) d l =
          let x = phi_listed b.phis v l in
          (parts.blocks block b d).phis x.0 x.1.0 x.1.1.0 (record { is_coroutine = coroutine; value = v; makes = ap Some x.1.1.1; is_kept = kept })

      on : HoldsOf Fine func f → (v : ℕ) {k s : Point} → IsMadeIn f k s v → IsKept func f v → ⊥
      on parts v (ByInstr p i inside e r) kept = by_instr parts v kept p i e r (slice_get f.blocks p.block) refl
      on parts v (ByPhi block inside l) kept = by_phi parts v kept block (slice_get f.blocks block) refl l

-- nothing that ends windows stands in a window that isn't wrong
pub no_call_inside : (f : Function) → NoWrongWindow f → (k s p : Point) → has_point (points_where is_save f) k ≡ true → suspend_of f k ≡ Some s → IsInWindow f k s p → ends_window_at f p ≡ true → ⊥
no_call_inside f h k s p there e inside ends =
    let x = passing_is is_save (instr_at f k) (where_pass is_save f k there) in
    h.each k x.0 x.1.0 x.1.1
    (NotOne (λ t d.
    let both : Some t ≡ Some s = sym (ap (λ (ps : List Point). slice_get ps 0) d) ∙ e in
    let same : t ≡ s = cc in
    h.each k x.0 x.1.0 x.1.1 (Between t d (Call (record { point = p; is_inside = subst (λ (y : Point). IsInWindow f k y p) (sym same) inside; ends = ends })))))

-- ---- uses behind a suspend

-- a use of the value behind the suspend
pub record IsBehind (f : Function) (s : Point) (v : ℕ) (u : Use) : Type 0 where
  pub value : u.value ≡ v
  pub reaches : ReachesBehind f s v u.block
  pub not_before : IsListed v u.before → ⊥
  pub not_end : u.block ≡ end_block f → ⊥

abbrev pub NotBehind : Function → Point → ℕ → Use → Type 0
NotBehind f s v u = IsBehind f s v u → ⊥

-- the suspend of g leads where that of f leads, and the value is made in g where it is made in f
pub record IsSameBehind (f g : Function) (s t : Point) (v : ℕ) : Type 0 where
  pub own : own_blocks g t ≡ own_blocks f s
  pub edges : block_edges g ≡ block_edges f
  pub values : (k : ℕ) → IsListed v (values_at f k) → IsListed v (values_at g k)
  pub end : end_block g ≡ end_block f
  pub takes : (block : ℕ) → TakesFrom g v t.block block → TakesFrom f v s.block block

module _ (f g : Function) (s t : Point) (v : ℕ) (same : IsSameBehind f g s t v) where
  reaches_home : (block : ℕ) → ReachesBehind g t v block → ReachesBehind f s v block
  reaches_home _ (Own block l) = Own block (subst (IsListed block) same.own l)
  reaches_home _ (Next from to h unmade other edge) =
      Next from to (reaches_home from h) (λ l. unmade (same.values from l)) (λ e. other (e ∙ sym same.end)) (subst (IsListed {X = ℕ × ℕ} (from, to)) same.edges edge)

  pub one_home : (p q : Place) (a b w : ℕ) (xs ys : List ℕ) → a ≡ b → (IsListed v xs → IsListed v ys) → NotBehind f s v (use_of p a xs w) → NotBehind g t v (use_of q b ys w)
  one_home p q a b w xs ys block h fine hit =
      fine (record {
        value = hit.value;
        reaches = subst (ReachesBehind f s v) (sym block) (reaches_home b hit.reaches);
        not_before = λ l. hit.not_before (h l);
        not_end = λ e. hit.not_end (sym block ∙ e ∙ sym same.end);
      })

  pub none_used : (func : ℕ) → (Each (NotBehind f s v) (uses_of func f) → Each (NotBehind g t v) (uses_of func g)) → (IsUsedBehind func f s v → ⊥) → IsUsedBehind func g t v → ⊥
  none_used func moved none (InBlock u l value reaches not_before not_end) =
      of_each (NotBehind g t v) (uses_of func g) u
      (moved (each_of (NotBehind f s v) (uses_of func f) (λ w m hit. none (InBlock w m hit.value hit.reaches hit.not_before hit.not_end))))
      l (record { value = value; reaches = reaches; not_before = not_before; not_end = not_end })
  none_used func moved none (OnEdge block l takes) = none (OnEdge block (subst (IsListed block) same.own l) (same.takes block takes))

-- ---- what is made in windows, where paths stay

module _ (f g : Function) (alike : IsAlike f g) (k s : Point) (v : ℕ) where
  front_back : (block : ℕ) → IsFrontIn g k s block → IsFrontIn f k s block
  front_back block (Inside w) = Inside (inside_back f g alike k s (front block) w)
  front_back block (AtSuspend e l) = AtSuspend e (leads_back f g alike (k ∷ s ∷ []) k s l)

  -- what made the value at a point
  abbrev pub ComeBack : Type 0
  ComeBack = (p : Point) (i : Instr) → IsInWindow f k s p → instr_at g p ≡ Some i → result_of i ≡ Some v → (j : Instr) × ((instr_at f p ≡ Some j) × (result_of j ≡ Some v))

  pub made_back : ComeBack → ((block : ℕ) → phi_results g block ≡ phi_results f block) → IsMadeIn g k s v → IsMadeIn f k s v
  made_back back phis (ByInstr p i inside e r) =
      let home = inside_back f g alike k s p inside in
      let x = back p i home e r in
      ByInstr p x.0 home x.1.0 x.1.1
  made_back back phis (ByPhi block inside l) = ByPhi block (front_back block inside) (subst (IsListed v) (phis block) l)

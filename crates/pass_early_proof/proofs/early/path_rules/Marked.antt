-- Markers of coroutine slots in windows and behind the end (rule K8).
use Rattle.std.proofs.Common.{◌≡◌, inl, inr, ℕ, zero, suc, Bool, true, false, List, [], ◌∷◌, length, refl, sym, ap, ◌∙◌, subst}
use Rattle.std.specs.List.{cons_option}
use Rattle.std.specs.Prelude.{Some, None, Option, filter_map, option_and_then, option_map, slice_get, ◌||◌}
use Rattle.rule_laws.specs.ir_base.declared.outcome.Place.{Place}
use Rattle.rule_laws.proofs.rules.renamed.Outside.{none_breaks}
use Rattle.rule_laws.proofs.ir_laws.paths.renamed.Outside.{where_pass}
use Rattle.pass_early.specs.Early.{saved}
use Rattle.rule_laws.proofs.rules.path_rules.Holding.{HoldsOf, first_none, of_parts, to_parts}
use Rattle.pass_early_proof.proofs.early.path_rules.Moved.{IsOf, front_same}
use Rattle.pass_early_proof.proofs.early.path_rules.Origins.{HasOrigin, Kept, Suspended, Written, origin}
use Rattle.pass_early_proof.proofs.early.path_rules.Outside.{after_home}
use Rattle.rule_laws.proofs.rules.path_rules.Outside.{place_point}
use Rattle.pass_early_proof.proofs.early.path_rules.SavedWindows.{inside_home, lone_token, none_between}
use Rattle.pass_early_proof.proofs.early.saves.Tokens.{bare_is}
use Rattle.rule_laws.proofs.rules.path_rules.Windows.{IsAlike, inside_back}
use Rattle.rule_laws.proofs.ir_laws.paths.path_rules.Windows.{got_has, is_save}
use Rattle.rule_laws.proofs.ir_laws.facts.Options.{passing_is}
use Rattle.rule_laws.proofs.ir_laws.paths.path_rules.Where.{where_has}
use Rattle.rule_laws.specs.ir_parts.Parts.{Part, parts_of}
use Rattle.ir_model.specs.declared.instr.Instr.{Instr}
use Rattle.ir_model.specs.declared.module.Block.{Block}
use Rattle.ir_model.specs.declared.module.Function.{Function}
use Rattle.ir_model.specs.declared.operand.Operand.{Operand}
use Rattle.rule_laws.proofs.ir_paths.Right.{facts_of_right}
use Rattle.rule_laws.proofs.ir_paths.Search.{or_left, or_right, same_point-itself, same_point-same}
use Rattle.rule_laws.specs.ir_paths.Facts.{facts_of}
use Rattle.rule_laws.specs.ir_paths.Paths.{IsPath, has_point, same_point}
use Rattle.rule_laws.specs.ir_paths.Slots.{allocas_of, has_name}
use Rattle.rule_laws.specs.ir_paths.Windows.{IsInWindow, call_operand, call_result, instr_at, instr_in, is_suspend_of, points_where, suspend_of}
use Rattle.rule_laws.specs.ir_paths.declared.point.Point.{Point}
use Rattle.pass_early_proof.proofs.early.saves.Slots.{same_allocas, same_ramp_slots}
use Rattle.rule_laws.proofs.ir_laws.paths.expanded.Windows.{instr_at_is}
use Rattle.pass_early_proof.proofs.early.saves.Windows.{suspend_bare, suspend_lone}
use Rattle.pass_early_proof.proofs.early.saves.Saves.{each_here}
use Rattle.pass_early_proof.specs.early.saves.SavesWritten.{saved_function}
use Rattle.pass_early_proof.specs.early.saves.Spots.{back_of, front_of}
use Rattle.rule_laws.specs.ir_laws.facts.expanded.Spots.{instrs_in}
use Rattle.rule_laws.specs.ir_laws.paths.expanded.Tokens.{HasNamedToken, HasNamedTokens}
use Rattle.rule_laws.specs.rule_slots.Closed.{IsClosed, IsInOneOf, IsInSomeWindow}
use Rattle.rule_laws.specs.rule_slots.Marked.{BreaksMarked, IsFirstMarked, is_marker}
use Rattle.rule_laws.specs.rule_slots.Slots.{NamesSlot}
use Rattle.rule_laws.specs.rule_windows.Points.{ends}

-- ---- the rule, by points

pub record NoneMarked (f : Function) : Type 0 where
  pub each : (p : Point) (i : Instr) → instr_at f p ≡ Some i → is_marker i ≡ true → NamesSlot f (call_operand i 1) → IsClosed f p → ⊥

module _ (func : ℕ) (f : Function) where
  abbrev Fine : Place × Part → Type 0
  Fine x = BreaksMarked f x → ⊥

  pub to_marked : NoneMarked f → IsFirstMarked func f None
  to_marked h =
      first_none (BreaksMarked f) (λ x. x.0) (parts_of func f) (to_parts Fine func f (record {
        signature = λ k. absurd k.1;
        blocks = λ k b e. record {
          head = λ x. absurd x.1;
          phis = λ j p q x. absurd x.1;
          instrs = λ j i q x. h.each (record { block = k; at = j }) i (ap (λ (o : Option Block). instr_in o j) e ∙ q) x.1.0 x.1.1 (subst (IsClosed f) (place_point func f k j b e) x.1.2);
          ending = λ x. absurd x.1;
        };
      }))

  pub of_marked : f.coroutine ≡ true → IsFirstMarked func f None → NoneMarked f
  of_marked coroutine none =
      let parts = of_parts Fine func f (none_breaks (BreaksMarked f) (λ x. x.0) (parts_of func f) none) in
      record { each = λ p i e marks slot closed. on parts p i e marks slot closed (slice_get f.blocks p.block) refl }
    where
      on : HoldsOf Fine func f → (p : Point) (i : Instr) → instr_at f p ≡ Some i → is_marker i ≡ true → NamesSlot f (call_operand i 1) → IsClosed f p → (o : Option Block) → slice_get f.blocks p.block ≡ o → ⊥
      on parts p i e marks slot closed None d = let none : None ≡ Some i = sym (ap (λ (o : Option Block). instr_in o p.at) d) ∙ e in cc
      on parts p i e marks slot closed (Some b) d =
          (parts.blocks p.block b d).instrs p.at i (sym (ap (λ (o : Option Block). instr_in o p.at) d) ∙ e)
          (coroutine, (marks, slot, subst (IsClosed f) (sym (place_point func f p.block p.at b d)) closed))

-- ---- windows of which there are some

pub record InWindowOf (f : Function) (p : Point) : Type 0 where
  pub save : Point
  pub suspend : Point
  pub stands : has_point (points_where is_save f) save ≡ true
  pub is_suspend : suspend_of f save ≡ Some suspend
  pub inside : IsInWindow f save suspend p

module _ (f : Function) (p : Point) where
  abbrev pairs : List Point → List (Point × Point)
  pairs ks = filter_map (λ save. option_map (λ suspend. (save, suspend)) (suspend_of f save)) ks

  from_pairs : (ks : List Point) → ((k : Point) → has_point ks k ≡ true → has_point (points_where is_save f) k ≡ true) → IsInOneOf f (pairs ks) p → InWindowOf f p
  from_pairs [] among h = absurd h
  from_pairs (k ∷ ks) among h = on (suspend_of f k) refl h (from_pairs ks (λ x e. among x (or_right (same_point x k) (has_point ks x) e)))
    where
      on : (o : Option Point) → suspend_of f k ≡ o → IsInOneOf f (cons_option (option_map (λ suspend. (k, suspend)) o) (pairs ks)) p → (IsInOneOf f (pairs ks) p → InWindowOf f p) → InWindowOf f p
      on None e x rest = rest x
      on (Some s) e (inl w) rest = record { save = k; suspend = s; stands = among k (or_left (same_point k k) (has_point ks k) (same_point-itself k)); is_suspend = e; inside = w }
      on (Some s) e (inr x) rest = rest x

  to_pairs : (ks : List Point) (n : ℕ) (k s : Point) → slice_get ks n ≡ Some k → suspend_of f k ≡ Some s → IsInWindow f k s p → IsInOneOf f (pairs ks) p
  to_pairs [] n k s e d w = absurd (cc)
  to_pairs (x ∷ ks) zero k s e d w =
      let same : x ≡ k = cc in
      subst (λ (o : Option Point). IsInOneOf f (cons_option (option_map (λ suspend. (x, suspend)) o) (pairs ks)) p) (sym (ap (suspend_of f) same ∙ d)) (inl (subst (λ (y : Point). IsInWindow f y s p) (sym same) w))
  to_pairs (x ∷ ks) (suc n) k s e d w = on (suspend_of f x) (to_pairs ks n k s e d w)
    where
      on : (o : Option Point) → IsInOneOf f (pairs ks) p → IsInOneOf f (cons_option (option_map (λ suspend. (x, suspend)) o) (pairs ks)) p
      on None h = h
      on (Some y) h = inr h

has_got : (ps : List Point) (p : Point) → has_point ps p ≡ true → (n : ℕ) × (slice_get ps n ≡ Some p)
has_got [] p e = absurd (cc)
has_got (q ∷ ps) p e = on (same_point p q) refl e (has_got ps p)
  where
    on : (b : Bool) → same_point p q ≡ b → (b || has_point ps p) ≡ true → (has_point ps p ≡ true → (n : ℕ) × (slice_get ps n ≡ Some p)) → (n : ℕ) × (slice_get (q ∷ ps) n ≡ Some p)
    on true s h rest = (0, ap Some (sym (same_point-same p q s)))
    on false s h rest = let x = rest h in (suc x.0, x.1)

pub some_window : (f : Function) (p : Point) → IsInSomeWindow f p → InWindowOf f p
some_window f p h = from_pairs f p (points_where is_save f) (λ k e. e) h

pub window_some : (f : Function) (p k s : Point) → has_point (points_where is_save f) k ≡ true → suspend_of f k ≡ Some s → IsInWindow f k s p → IsInSomeWindow f p
window_some f p k s there e w = let x = has_got (points_where is_save f) k there in to_pairs f p (points_where is_save f) x.0 k s x.1 e w

-- ---- slots that stay

pub slot_back : (f g : Function) → ((a : ℕ) → has_name (allocas_of g) a ≡ has_name (allocas_of f) a) → ((a : ℕ) → has_name (facts_of g).ramp_slots a ≡ has_name (facts_of f).ramp_slots a) → (x : Operand) → NamesSlot g x → NamesSlot f x
slot_back f g allocas ramps (Operand.Local v) h = (
  sym (allocas v) ∙ h.0,
  (λ ramp. h.1 (((facts_of_right g).ramp_slots v).0 (ramps v ∙ ((facts_of_right f).ramp_slots v).1 (sym (allocas v) ∙ h.0, ramp))).1),
)
slot_back f g allocas ramps _ h = absurd h

-- ---- where paths stay

module _ (f g : Function) (alike : IsAlike f g) (same_ends : ends g ≡ ends f) (same_saves : points_where is_save g ≡ points_where is_save f) where
  path_back : (avoided : List Point) (between : List Point) (p q : Point) → IsPath g avoided p between q → IsPath f avoided p between q
  path_back avoided [] p q h = ap (λ (ps : List Point). has_point ps q) (sym (alike.nexts p)) ∙ h
  path_back avoided (v ∷ between) p q h = (ap (λ (ps : List Point). has_point ps v) (sym (alike.nexts p)) ∙ h.0, h.1, path_back avoided between v q h.2)

  pub closed_back : (p : Point) → IsClosed g p → IsClosed f p
  closed_back p (inl h) = inl (record { start = h.start; is_start = ap (λ (ps : List Point). has_point ps h.start) (sym same_ends) ∙ h.is_start; path = record { between = h.path.between; is_path = path_back [] h.path.between h.start p h.path.is_path } })
  closed_back p (inr h) =
      let x = some_window g p h in
      let there : has_point (points_where is_save f) x.save ≡ true = ap (λ (ps : List Point). has_point ps x.save) (sym same_saves) ∙ x.stands in
      let i = passing_is is_save (instr_at f x.save) (where_pass is_save f x.save there) in
      inr (window_some f p x.save x.suspend there (ap (λ (ps : List Point). slice_get ps 0) (sym (alike.suspends x.save i.0 i.1.0 i.1.1)) ∙ x.is_suspend) (inside_back f g alike x.save x.suspend p x.inside))

-- ---- where saves are written

module _ (f : Function) (named : HasNamedTokens f) where
  abbrev late : Function
  late = saved_function f

  closed_home : (y q : Point) → IsOf f y q → IsClosed late y → IsClosed f q
  closed_home y q at (inl h) = inl (after_home f named y q at h)
  closed_home y q at (inr h) = on (some_window late y h)
    where
      by : (x : InWindowOf late y) (i : Instr) → is_save i ≡ true → HasOrigin f x.save i → IsClosed f q
      by x i save (Kept p e bare front back) = found (suspend_of f p) refl
        where
          here : slice_get (instrs_in (slice_get f.blocks p.block)) p.at ≡ Some i
          here = sym (instr_at_is (slice_get f.blocks p.block) p.at) ∙ e

          moved : Some x.suspend ≡ option_map (back_of f) (suspend_of f p)
          moved = sym x.is_suspend ∙ ap (suspend_of late) front ∙ suspend_lone f named p i here bare (each_here (HasNamedToken (length f.names)) f.blocks named p i here).result

          found : (o : Option Point) → suspend_of f p ≡ o → IsClosed f q
          found None d = let none : Some x.suspend ≡ None = moved ∙ ap (option_map (back_of f)) d in absurd (cc)
          found (Some t) d =
              let both : Some x.suspend ≡ Some (back_of f t) = moved ∙ ap (option_map (back_of f)) d in
              let same : x.suspend ≡ back_of f t = cc in
              let token : Option ℕ = option_and_then call_result (instr_at f p) in
              let s = passing_is (is_suspend_of token) (instr_at f t) (where_pass (is_suspend_of token) f t (got_has (points_where (is_suspend_of token) f) 0 t d)) in
              let lone : front_of f t ≡ back_of f t = front_same f named t s.0 s.1.0 (lone_token f named token s.0 s.1.1) in
              inr (window_some f q p t (where_has is_save f p i e save) d
              (inside_home f named p t (front_same f named p i e bare) lone y q at (subst (λ (z : Point). IsInWindow late (front_of f p) z y) same (subst (λ (z : Point). IsInWindow late z x.suspend y) front x.inside))))
      by x i save (Suspended p name j e bare le back same) = let is = bare_is f.coroutine j bare in let t : true ≡ false = sym save ∙ ap is_save same ∙ ap (λ (z : Instr). is_save (saved name z)) is.is in absurd (cc)
      by x i save (Written p name j e bare le front same) =
          let here : slice_get (instrs_in (slice_get f.blocks p.block)) p.at ≡ Some j = sym (instr_at_is (slice_get f.blocks p.block) p.at) ∙ e in
          let both : Some x.suspend ≡ Some (back_of f p) = sym x.is_suspend ∙ ap (suspend_of late) front ∙ suspend_bare f named p j here bare in
          let own : x.suspend ≡ back_of f p = cc in
          absurd (none_between f named p j e bare y (subst (λ (z : Point). IsInWindow late (front_of f p) z y) own (subst (λ (z : Point). IsInWindow late z x.suspend y) front x.inside)))

      on : InWindowOf late y → IsClosed f q
      on x = let i = passing_is is_save (instr_at late x.save) (where_pass is_save late x.save x.stands) in by x i.0 i.1.1 (origin f x.save i.0 i.1.0)

  slot_home : (x : Operand) → NamesSlot late x → NamesSlot f x
  slot_home = slot_back f late (λ a. ap (λ (vs : List ℕ). has_name vs a) (same_allocas f named)) (same_ramp_slots f named)

  pub marked_saved : NoneMarked f → NoneMarked late
  marked_saved h = record { each = λ y i e marks slot closed. by y i marks slot closed (origin f y i e) }
    where
      by : (y : Point) (i : Instr) → is_marker i ≡ true → NamesSlot late (call_operand i 1) → IsClosed late y → HasOrigin f y i → ⊥
      by y i marks slot closed (Kept p e bare front back) = h.each p i e marks (slot_home (call_operand i 1) slot) (closed_home y p (inl front) closed)
      by y i marks slot closed (Suspended p name j e bare le back same) = let is = bare_is f.coroutine j bare in let t : true ≡ false = sym marks ∙ ap is_marker same ∙ ap (λ (z : Instr). is_marker (saved name z)) is.is in cc
      by y i marks slot closed (Written p name j e bare le front same) = let t : true ≡ false = sym marks ∙ ap is_marker same in cc

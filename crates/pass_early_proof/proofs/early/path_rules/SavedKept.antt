-- Values made in windows and used behind them (rule K7), where saves are written.
use Rattle.std.proofs.Common.{◌≡◌, inl, inr, ℕ, true, false, [], ◌∷◌, length, refl, sym, ap, ◌∙◌, subst}
use Rattle.std.specs.Prelude.{Some, None, Option, map, option_and_then, option_map, slice_get}
use Rattle.rule_laws.proofs.ir_laws.paths.renamed.Outside.{where_pass}
use Rattle.pass_early.specs.Early.{saved}
use Rattle.rule_laws.proofs.rules.path_rules.KeptValues.{IsSameBehind, NoneKept, NotBehind, no_call_inside, none_used, one_home}
use Rattle.pass_early_proof.proofs.early.path_rules.Moved.{front_same, led_home, same_source}
use Rattle.pass_early_proof.proofs.early.path_rules.Origins.{HasOrigin, Kept, Suspended, Written, origin}
use Rattle.pass_early_proof.proofs.early.path_rules.SavedUses.{block_edges_saved, uses_move, values_within}
use Rattle.pass_early_proof.proofs.early.path_rules.SavedWindows.{inside_home, label_saved, lone_token, none_between, not_same}
use Rattle.pass_early_proof.proofs.early.saves.Tokens.{bare_is}
use Rattle.rule_laws.proofs.ir_laws.paths.path_rules.Where.{where_has}
use Rattle.rule_laws.proofs.rules.path_rules.Windows.{NoWrongWindow}
use Rattle.rule_laws.proofs.ir_laws.paths.path_rules.Windows.{got_has, is_save}
use Rattle.rule_laws.proofs.ir_laws.facts.Options.{passing_is}
use Rattle.rule_laws.specs.flow_solver.Paths.{IsListed}
use Rattle.ir_model.specs.Names.{position_of}
use Rattle.ir_model.specs.declared.instr.Instr.{Instr}
use Rattle.ir_model.specs.declared.instr.Phi.{Phi}
use Rattle.ir_model.specs.declared.module.Block.{Block}
use Rattle.ir_model.specs.declared.module.Function.{Function}
use Rattle.rule_laws.specs.ir_paths.Paths.{Leads, has_point}
use Rattle.rule_laws.specs.ir_paths.Windows.{IsInWindow, call_result, destroy_label, instr_at, is_suspend_of, points_where, resume_label, suspend_of}
use Rattle.rule_laws.specs.ir_paths.declared.point.Point.{Point}
use Rattle.pass_early_proof.proofs.early.saves.Apart.{front_back}
use Rattle.pass_early_proof.proofs.early.saves.Behind.{end_saved}
use Rattle.pass_early_proof.proofs.early.saves.Blocks.{get_block, position_saved}
use Rattle.pass_early_proof.proofs.early.saves.Saves.{each_here}
use Rattle.rule_laws.specs.ir_laws.paths.expanded.Avoided.{AreAvoided}
use Rattle.pass_early_proof.proofs.early.saves.Windows.{are_avoided as window_avoided, suspend_bare, suspend_lone}
use Rattle.rule_laws.proofs.ir_laws.paths.expanded.Windows.{instr_at_is}
use Rattle.pass_early_proof.specs.early.saves.SavesWritten.{is_bare, saved_block, saved_function}
use Rattle.pass_early_proof.specs.early.saves.Spots.{back_of, front_of, number_of_block}
use Rattle.rule_laws.specs.ir_laws.facts.expanded.Spots.{instrs_in}
use Rattle.rule_laws.specs.ir_laws.paths.expanded.Tokens.{HasNamedToken, HasNamedTokens}
use Rattle.rule_laws.specs.rule_windows.Windows.{ends_window, ends_window_at, passes}
use Rattle.rule_laws.specs.rule_window_values.Kept.{AtSuspend, ByInstr, ByPhi, Inside, IsFrontIn, IsMadeIn, IsUsedBehind, TakesFrom, front, own_blocks, phi_results, phis_at, phis_in}

module _ (f : Function) (named : HasNamedTokens f) where
  abbrev late : Function
  late = saved_function f

  phis_same : (k : ℕ) → phis_at late k ≡ phis_at f k
  phis_same k = ap phis_in (get_block f.coroutine k (length f.names) f.blocks) ∙ on (slice_get f.blocks k)
    where
      on : (o : Option Block) → phis_in (option_map (saved_block f.coroutine (number_of_block f.coroutine k (length f.names) f.blocks)) o) ≡ phis_in o
      on None = refl
      on (Some b) = refl

  results_same : (k : ℕ) → phi_results late k ≡ phi_results f k
  results_same k = ap (map (λ (p : Phi). p.result)) (phis_same k)

  -- ---- what is behind a suspend

  own_same : (t : Point) → own_blocks late (back_of f t) ≡ own_blocks f t
  own_same t =
      let first : position_of late (resume_label late (back_of f t)) ≡ position_of f (resume_label f t) = ap (position_of late) (label_saved f named 0 t) ∙ position_saved f (resume_label f t) in
      let second : position_of late (destroy_label late (back_of f t)) ≡ position_of f (destroy_label f t) = ap (position_of late) (label_saved f named 1 t) ∙ position_saved f (destroy_label f t) in
      (λ k. first k ∷ second k ∷ [])

  takes_home : (v from block : ℕ) → TakesFrom late v from block → TakesFrom f v from block
  takes_home v from block h = record {
    phi = h.phi;
    incoming = h.incoming;
    stands = subst (IsListed h.phi) (phis_same block) h.stands;
    comes = h.comes;
    is_from = sym (position_saved f h.incoming.from) ∙ h.is_from;
    takes = h.takes;
  }

  behind_same : (t : Point) (v : ℕ) → IsSameBehind f late t (back_of f t) v
  behind_same t v = record { own = own_same t; edges = block_edges_saved f; values = λ k. values_within f k v; end = end_saved f; takes = takes_home v t.block }

  used_home : (func : ℕ) (t : Point) (v : ℕ) → (IsUsedBehind func f t v → ⊥) → IsUsedBehind func late (back_of f t) v → ⊥
  used_home func t v =
      none_used f late t (back_of f t) v (behind_same t v) func
      (uses_move f (NotBehind f t v) (NotBehind late (back_of f t) v)
      (λ p q a b w xs ys same h fine hit. one_home f late t (back_of f t) v (behind_same t v) p q a b w xs ys same (λ l. subst (λ (n : ℕ). IsListed n ys) hit.value (h (subst (λ (n : ℕ). IsListed n xs) (sym hit.value) l))) fine hit)
      (λ q k n ys hit. hit.not_before (inl (sym hit.value)))
      func)

  -- ---- what is made in the window of a save that stood

  module _ (p t : Point) (lone_save : front_of f p ≡ back_of f p) (lone_suspend : front_of f t ≡ back_of f t) (clear : (q : Point) → IsInWindow f p t q → ends_window_at f q ≡ true → ⊥) where
    both : AreAvoided (front_of f) (back_of f) (p ∷ t ∷ []) (front_of f p ∷ back_of f t ∷ [])
    both = window_avoided f named p t lone_save lone_suspend

    bare_ends : (i : Instr) → is_bare f.coroutine i ≡ true → ends_window i ≡ true
    bare_ends i e = let is = bare_is f.coroutine i e in ap ends_window is.is

    front_home : (block : ℕ) → IsFrontIn late (front_of f p) (back_of f t) block → IsFrontIn f p t block
    front_home block (Inside w) = Inside (inside_home f named p t lone_save lone_suspend (front block) (front block) (inl refl) w)
    front_home block (AtSuspend e l) =
        AtSuspend (same_source f (front block) (front block) t (inl refl) (inr e))
        (led_home f named (p ∷ t ∷ []) (front_of f p ∷ back_of f t ∷ []) both p (back_of f t) t (inr refl) (subst (λ (x : Point). Leads late (front_of f p ∷ back_of f t ∷ []) x (back_of f t)) lone_save l))

    made_home : (v : ℕ) → IsMadeIn late (front_of f p) (back_of f t) v → IsMadeIn f p t v
    made_home v (ByInstr z i w e r) = by (origin f z i e)
      where
        by : HasOrigin f z i → IsMadeIn f p t v
        by (Kept q d bare front back) = ByInstr q i (inside_home f named p t lone_save lone_suspend z q (inl front) w) d r
        by (Suspended q name j d bare le back same) = absurd (clear q (inside_home f named p t lone_save lone_suspend z q (inr back) w) (ap (passes ends_window) d ∙ bare_ends j bare))
        by (Written q name j d bare le front same) = absurd (clear q (inside_home f named p t lone_save lone_suspend z q (inl front) w) (ap (passes ends_window) d ∙ bare_ends j bare))
    made_home v (ByPhi block inside l) = ByPhi block (front_home block inside) (subst (IsListed v) (results_same block) l)

  -- ---- nothing is made in the window of a save that is written

  module _ (p : Point) (i : Instr) (there : instr_at f p ≡ Some i) (bare : is_bare f.coroutine i ≡ true) where
    never_front : (block : ℕ) → IsFrontIn late (front_of f p) (back_of f p) block → ⊥
    never_front block (Inside w) = none_between f named p i there bare (front block) w
    never_front block (AtSuspend e l) = not_same f named p i there bare (ap (front_of f) (sym (front_back f (front block) p e)) ∙ e)

    never_made : (v : ℕ) → IsMadeIn late (front_of f p) (back_of f p) v → ⊥
    never_made v (ByInstr z j w e r) = none_between f named p i there bare z w
    never_made v (ByPhi block inside l) = never_front block inside

  -- ---- the rule

  module _ (func : ℕ) (windows : NoWrongWindow f) where
    pub kept_saved : NoneKept func f → NoneKept func late
    kept_saved h = record { each = λ k s v there suspend made used. let i = passing_is is_save (instr_at late k) (where_pass is_save late k there) in by k s v suspend made used i.0 i.1.1 (origin f k i.0 i.1.0) }
      where
        by : (k s : Point) (v : ℕ) → suspend_of late k ≡ Some s → IsMadeIn late k s v → IsUsedBehind func late s v → (i : Instr) → is_save i ≡ true → HasOrigin f k i → ⊥
        by k s v suspend made used i save (Kept p e bare front back) = found (suspend_of f p) refl
          where
            here : slice_get (instrs_in (slice_get f.blocks p.block)) p.at ≡ Some i
            here = sym (instr_at_is (slice_get f.blocks p.block) p.at) ∙ e

            moved : Some s ≡ option_map (back_of f) (suspend_of f p)
            moved = sym suspend ∙ ap (suspend_of late) front ∙ suspend_lone f named p i here bare (each_here (HasNamedToken (length f.names)) f.blocks named p i here).result

            found : (o : Option Point) → suspend_of f p ≡ o → ⊥
            found None d = let none : Some s ≡ None = moved ∙ ap (option_map (back_of f)) d in cc
            found (Some t) d =
                let both : Some s ≡ Some (back_of f t) = moved ∙ ap (option_map (back_of f)) d in
                let same : s ≡ back_of f t = cc in
                let token : Option ℕ = option_and_then call_result (instr_at f p) in
                let x = passing_is (is_suspend_of token) (instr_at f t) (where_pass (is_suspend_of token) f t (got_has (points_where (is_suspend_of token) f) 0 t d)) in
                let lone : front_of f t ≡ back_of f t = front_same f named t x.0 x.1.0 (lone_token f named token x.0 x.1.1) in
                let stands : has_point (points_where is_save f) p ≡ true = where_has is_save f p i e save in
                let home : IsMadeIn late (front_of f p) (back_of f t) v = subst (λ (z : Point). IsMadeIn late (front_of f p) z v) same (subst (λ (z : Point). IsMadeIn late z s v) front made) in
                let old : IsMadeIn f p t v = made_home p t (front_same f named p i e bare) lone (λ q w ends. no_call_inside f windows p t q stands d w ends) v home in
                used_home func t v (λ u. h.each p t v stands d old u) (subst (λ (z : Point). IsUsedBehind func late z v) same used)
        by k s v suspend made used i save (Suspended p name j e bare le back same) = let is = bare_is f.coroutine j bare in let t : true ≡ false = sym save ∙ ap is_save same ∙ ap (λ (z : Instr). is_save (saved name z)) is.is in cc
        by k s v suspend made used i save (Written p name j e bare le front same) =
            let here : slice_get (instrs_in (slice_get f.blocks p.block)) p.at ≡ Some j = sym (instr_at_is (slice_get f.blocks p.block) p.at) ∙ e in
            let both : Some s ≡ Some (back_of f p) = sym suspend ∙ ap (suspend_of late) front ∙ suspend_bare f named p j here bare in
            let own : s ≡ back_of f p = cc in
            never_made p j e bare v (subst (λ (z : Point). IsMadeIn late (front_of f p) z v) own (subst (λ (z : Point). IsMadeIn late z s v) front made))

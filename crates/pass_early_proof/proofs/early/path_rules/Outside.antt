-- What stands before begin or behind the end (rule K5), where uses are renamed and saves written.
use Rattle.std.proofs.Common.{◌≡◌, ◌⊎◌, inl, inr, ℕ, ◌+◌, ◌-◌, true, false, List, [], ◌∷◌, length, refl, sym, ap, ◌∙◌, subst}
use Rattle.std.specs.Prelude.{Some, None, Option, option_map, slice_get, ◌||◌}
use Rattle.run_states.proofs.renamed.Modules.{length_same}
use Rattle.pass_early_proof.proofs.early.renaming.Parts.{call_of_same, instr_same, nexts_same, points_where_same}
use Rattle.pass_early_proof.specs.early.renaming.Passes.{renamed_block, renamed_coroutine}
use Rattle.pass_early.specs.Renaming.{renamed_instr, renamed_term}
use Rattle.pass_early.specs.declared.renaming.Renaming.{Renaming}
use Rattle.pass_early_proof.proofs.early.path_rules.Moved.{IsOf, are_avoided, front_home, led_home, none_avoided, same_source, test_front}
use Rattle.pass_early_proof.proofs.early.path_rules.Origins.{HasOrigin, IsSavedBlock, Kept, Suspended, Written, block_from, origin}
use Rattle.pass_early_proof.proofs.early.path_rules.RenamedOperands.{map_was}
use Rattle.pass_early_proof.proofs.early.path_rules.SavedCalls.{IsOwn, own_call}
use Rattle.pass_early_proof.proofs.early.saves.Tokens.{bare_is}
use Rattle.rule_laws.proofs.ir_laws.paths.path_rules.Where.{has_where}
use Rattle.rule_laws.specs.ir_laws.facts.renamed.Regular.{passes}
use Rattle.ir_model.specs.declared.instr.Instr.{Instr}
use Rattle.ir_model.specs.declared.instr.Terminator.{Terminator}
use Rattle.ir_model.specs.declared.module.Block.{Block}
use Rattle.ir_model.specs.declared.module.Function.{Function}
use Rattle.ir_model.specs.declared.operand.Intrinsic.{Intrinsic}
use Rattle.rule_laws.proofs.ir_paths.Search.{either, same_point-same}
use Rattle.rule_laws.specs.ir_paths.Paths.{IsPath, Leads, has_point, same_point}
use Rattle.rule_laws.specs.ir_paths.Windows.{instr_at, is_call_of, points_where}
use Rattle.rule_laws.specs.ir_paths.declared.point.Point.{Point}
use Rattle.rule_laws.specs.flow_points.Reached.{IsReached}
use Rattle.pass_early_proof.proofs.early.saves.Instrs.{back_end}
use Rattle.rule_laws.specs.ir_laws.paths.expanded.Avoided.{AreAvoided}
use Rattle.pass_early_proof.specs.early.saves.SavesWritten.{is_bare, saved_function}
use Rattle.pass_early_proof.specs.early.saves.Spots.{back_of, front_of, number_of_block, own_saves, place_in}
use Rattle.rule_laws.specs.ir_laws.facts.expanded.Spots.{instrs_in}
use Rattle.rule_laws.specs.ir_laws.paths.expanded.Tokens.{HasNamedTokens}
use Rattle.rule_laws.specs.rule_windows.Outside.{ends_with_it, is_return, needs_begin}
use Rattle.rule_laws.specs.rule_windows.Points.{begins, ends, entry}
use Rattle.rule_laws.specs.rule_windows.Sets.{IsAfterEnd, IsWithoutBegin, RunsOut}
use Rattle.rule_laws.proofs.ir_laws.paths.path_rules.Outside.{end_at}
use Rattle.rule_laws.proofs.rules.path_rules.Outside.{NothingOutside, Outside}

-- ---- where uses are renamed

module _ (r : Renaming) (f : Function) where
  abbrev g : Function
  g = renamed_coroutine r f

  pub path_same : (avoided : List Point) (between : List Point) (p q : Point) → IsPath g avoided p between q → IsPath f avoided p between q
  path_same avoided [] p q h = ap (λ (ps : List Point). has_point ps q) (sym (nexts_same r f p)) ∙ h
  path_same avoided (v ∷ between) p q h = (ap (λ (ps : List Point). has_point ps v) (sym (nexts_same r f p)) ∙ h.0, h.1, path_same avoided between v q h.2)

  pub path_again : (avoided : List Point) (between : List Point) (p q : Point) → IsPath f avoided p between q → IsPath g avoided p between q
  path_again avoided [] p q h = ap (λ (ps : List Point). has_point ps q) (nexts_same r f p) ∙ h
  path_again avoided (v ∷ between) p q h = (ap (λ (ps : List Point). has_point ps v) (nexts_same r f p) ∙ h.0, h.1, path_again avoided between v q h.2)

  pub leads_back : (avoided : List Point) (p q : Point) → Leads g avoided p q → Leads f avoided p q
  leads_back avoided p q l = record { between = l.between; is_path = path_same avoided l.between p q l.is_path }

  pub leads_now : (avoided : List Point) (p q : Point) → Leads f avoided p q → Leads g avoided p q
  leads_now avoided p q l = record { between = l.between; is_path = path_again avoided l.between p q l.is_path }

  reached_back : (starts avoided : List Point) (p : Point) → IsReached g starts avoided p → IsReached f starts avoided p
  reached_back starts avoided p h = record { start = h.start; is_start = h.is_start; path = leads_back avoided h.start p h.path }

  calls_same : (k : Intrinsic) → points_where (is_call_of k) g ≡ points_where (is_call_of k) f
  calls_same k = points_where_same r (is_call_of k) (is_call_of k) (call_of_same r k) f

  pub after_back : (p : Point) → IsAfterEnd g p → IsAfterEnd f p
  after_back p h = reached_back (ends f) [] p (subst (λ (ps : List Point). IsReached g ps [] p) (calls_same Intrinsic.CoroEnd) h)

  out_back : (p : Point) → RunsOut g p → RunsOut f p
  out_back p h = reached_back (begins f) (ends f) p (subst (λ (ps : List Point). IsReached g (begins f) ps p) (calls_same Intrinsic.CoroEnd) (subst (λ (ps : List Point). IsReached g ps (ends g) p) (calls_same Intrinsic.CoroBegin) h))

  pub without_back : (p : Point) → IsWithoutBegin g p → IsWithoutBegin f p
  without_back p h = record { begins_later = ap (λ (ps : List Point). has_point ps entry) (sym (calls_same Intrinsic.CoroBegin)) ∙ h.begins_later; path = on h.path }
    where
      on : (p ≡ entry) ⊎ IsReached g (entry ∷ []) (begins g) p → (p ≡ entry) ⊎ IsReached f (entry ∷ []) (begins f) p
      on (inl e) = inl e
      on (inr x) = inr (reached_back (entry ∷ []) (begins f) p (subst (λ (ps : List Point). IsReached g (entry ∷ []) ps p) (calls_same Intrinsic.CoroBegin) x))

  ends_it_same : (i : Instr) → ends_with_it (renamed_instr r i) ≡ ends_with_it i
  ends_it_same i = λ k. call_of_same r Intrinsic.CoroBegin i k || (call_of_same r Intrinsic.CoroSave i k || (call_of_same r Intrinsic.CoroSuspend i k || (call_of_same r Intrinsic.CoroFree i k || call_of_same r Intrinsic.CoroEnd i k)))

  needs_same : (i : Instr) → needs_begin (renamed_instr r i) ≡ needs_begin i
  needs_same i = λ k. call_of_same r Intrinsic.CoroSave i k || (call_of_same r Intrinsic.CoroSuspend i k || (call_of_same r Intrinsic.CoroFree i k || (call_of_same r Intrinsic.CoroFrame i k || call_of_same r Intrinsic.CoroEnd i k)))

  stands_back : (p : Point) (i : Instr) → Outside g p (renamed_instr r i) → Outside f p i
  stands_back p i (inl h) = inl (sym (ends_it_same i) ∙ h.0, after_back p h.1)
  stands_back p i (inr h) = inr (sym (needs_same i) ∙ h.0, without_back p h.1)

  return_same : (t : Terminator) → is_return (renamed_term r t) ≡ is_return t
  return_same (Terminator.Jump label) = refl
  return_same (Terminator.Branch x a b) = refl
  return_same (Terminator.Switch arg default cases) = refl
  return_same (Terminator.Ret v) = refl
  return_same Terminator.Unreachable = refl

  -- what stood at a point
  pub instr_was : (p : Point) (y : Instr) → instr_at g p ≡ Some y → (i : Instr) × ((instr_at f p ≡ Some i) × (y ≡ renamed_instr r i))
  instr_was p y e = on (instr_at f p) refl (sym (instr_same r f p) ∙ e)
    where
      on : (o : Option Instr) → instr_at f p ≡ o → option_map (renamed_instr r) o ≡ Some y → (i : Instr) × ((instr_at f p ≡ Some i) × (y ≡ renamed_instr r i))
      on None d k = absurd (cc)
      on (Some i) d k = let same : y ≡ renamed_instr r i = cc in (i, (d, same))

  pub outside_renamed : NothingOutside f → NothingOutside g
  outside_renamed h = record {
    instrs = λ p y e x. let was = instr_was p y e in h.instrs p was.0 was.1.0 (stands_back p was.0 (subst (Outside g p) was.1.1 x));
    returns = λ k d e t x.
        let was = map_was (renamed_block r) f.blocks k d e in
        let b : Block = was.0 in
        let same : end_at k d ≡ end_at k b = (λ i. record { block = k; at = (ap (λ (c : Block). length c.instrs) was.1.1 ∙ length_same (renamed_instr r) b.instrs) i }) in
        h.returns k b was.1.0 (sym (return_same b.term) ∙ ap (λ (c : Block). is_return c.term) (sym was.1.1) ∙ t) (out_back (end_at k b) (subst (RunsOut g) same x));
  }

-- ---- where saves are written

own_begin : IsOwn (is_call_of Intrinsic.CoroBegin)
own_begin = own_call Intrinsic.CoroBegin (λ n. refl)

own_end : IsOwn (is_call_of Intrinsic.CoroEnd)
own_end = own_call Intrinsic.CoroEnd (λ n. refl)

one_point : (x y : Point) → has_point (y ∷ []) x ≡ true → x ≡ y
one_point x y h = on (either (same_point x y) false h)
  where
    on : (same_point x y ≡ true) ⊎ (false ≡ true) → x ≡ y
    on (inl e) = same_point-same x y e
    on (inr e) = absurd (cc)

module _ (f : Function) (named : HasNamedTokens f) where
  abbrev late : Function
  late = saved_function f

  no_begin : (i : Instr) → is_bare f.coroutine i ≡ true → is_call_of Intrinsic.CoroBegin i ≡ false
  no_begin i e = let is = bare_is f.coroutine i e in ap (is_call_of Intrinsic.CoroBegin) is.is

  no_end : (i : Instr) → is_bare f.coroutine i ≡ true → is_call_of Intrinsic.CoroEnd i ≡ false
  no_end i e = let is = bare_is f.coroutine i e in ap (is_call_of Intrinsic.CoroEnd) is.is

  pub begins_avoided : AreAvoided (front_of f) (back_of f) (begins f) (begins late)
  begins_avoided = are_avoided f named (is_call_of Intrinsic.CoroBegin) own_begin no_begin

  ends_avoided : AreAvoided (front_of f) (back_of f) (ends f) (ends late)
  ends_avoided = are_avoided f named (is_call_of Intrinsic.CoroEnd) own_end no_end

  -- a call that no suspend is comes from one
  record CameFrom (k : Intrinsic) (x : Point) : Type 0 where
    point : Point
    is : x ≡ back_of f point
    there : has_point (points_where (is_call_of k) f) point ≡ true

  came_from : (k : Intrinsic) → IsOwn (is_call_of k) → ((i : Instr) → is_bare f.coroutine i ≡ true → is_call_of k i ≡ false) → (x : Point) → has_point (points_where (is_call_of k) late) x ≡ true → CameFrom k x
  came_from k own other x h = on (instr_at late x) refl (sym (has_where (is_call_of k) late x) ∙ h)
    where
      by : (y : Instr) → is_call_of k y ≡ true → HasOrigin f x y → CameFrom k x
      by y c (Kept p e bare front back) = record { point = p; is = back; there = has_where (is_call_of k) f p ∙ ap (passes (is_call_of k)) e ∙ c }
      by y c (Suspended p name i e bare le back same) = let t : true ≡ false = sym c ∙ ap (is_call_of k) same ∙ own.saved_one f.coroutine name i bare ∙ other i bare in absurd (cc)
      by y c (Written p name i e bare le front same) = let t : true ≡ false = sym c ∙ ap (is_call_of k) same ∙ own.save name in absurd (cc)

      on : (o : Option Instr) → instr_at late x ≡ o → passes (is_call_of k) o ≡ true → CameFrom k x
      on None e c = absurd (cc)
      on (Some y) e c = by y c (origin f x y e)

  pub after_home : (y q : Point) → IsOf f y q → IsAfterEnd late y → IsAfterEnd f q
  after_home y q at h =
      let from = came_from Intrinsic.CoroEnd own_end no_end h.start h.is_start in
      record { start = from.point; is_start = from.there; path = led_home f named [] [] (none_avoided f named) from.point y q at (subst (λ (x : Point). Leads late [] x y) from.is h.path) }

  out_home : (y q : Point) → IsOf f y q → RunsOut late y → RunsOut f q
  out_home y q at h =
      let from = came_from Intrinsic.CoroBegin own_begin no_begin h.start h.is_start in
      record { start = from.point; is_start = from.there; path = led_home f named (ends f) (ends late) ends_avoided from.point y q at (subst (λ (x : Point). Leads late (ends late) x y) from.is h.path) }

  pub without_home : (y q : Point) → IsOf f y q → IsWithoutBegin late y → IsWithoutBegin f q
  without_home y q at h = record {
    begins_later = has_where (is_call_of Intrinsic.CoroBegin) f entry ∙ sym (test_front f named (is_call_of Intrinsic.CoroBegin) own_begin no_begin entry) ∙ sym (has_where (is_call_of Intrinsic.CoroBegin) late entry) ∙ h.begins_later;
    path = on h.path;
  }
    where
      there : (y ≡ back_of f entry) ⊎ Leads f (begins f) entry q → (q ≡ entry) ⊎ IsReached f (entry ∷ []) (begins f) q
      there (inl e) = inl (same_source f y q entry at (inr e))
      there (inr l) = inr (record { start = entry; is_start = refl; path = l })

      on : (y ≡ entry) ⊎ IsReached late (entry ∷ []) (begins late) y → (q ≡ entry) ⊎ IsReached f (entry ∷ []) (begins f) q
      on (inl e) = inl (same_source f y q entry at (inl e))
      on (inr x) = there (front_home f named (begins f) (begins late) begins_avoided entry y q at (subst (λ (z : Point). Leads late (begins late) z y) (one_point x.start entry x.is_start) x.path))

  pub outside_home : (y q : Point) (i j : Instr) → IsOf f y q → (ends_with_it j ≡ true → ends_with_it i ≡ true) → (needs_begin j ≡ true → needs_begin i ≡ true) → Outside late y j → Outside f q i
  outside_home y q i j at ends needs (inl h) = inl (ends h.0, after_home y q at h.1)
  outside_home y q i j at ends needs (inr h) = inr (needs h.0, without_home y q at h.1)

  bare_ends : (i : Instr) → is_bare f.coroutine i ≡ true → ends_with_it i ≡ true
  bare_ends i e = let is = bare_is f.coroutine i e in ap ends_with_it is.is

  bare_needs : (i : Instr) → is_bare f.coroutine i ≡ true → needs_begin i ≡ true
  bare_needs i e = let is = bare_is f.coroutine i e in ap needs_begin is.is

  instr_saved : NothingOutside f → (y : Point) (j : Instr) → HasOrigin f y j → Outside late y j → ⊥
  instr_saved h y j (Kept p e bare front back) x = h.instrs p j e (outside_home y p j j (inl front) (λ k. k) (λ k. k) x)
  instr_saved h y j (Suspended p name i e bare le back same) x = h.instrs p i e (outside_home y p i j (inr back) (λ k. bare_ends i bare) (λ k. bare_needs i bare) x)
  instr_saved h y j (Written p name i e bare le front same) x = h.instrs p i e (outside_home y p i j (inl front) (λ k. bare_ends i bare) (λ k. bare_needs i bare) x)

  -- the end of a block is the back of its end
  pub end_back : (k : ℕ) (d : Block) (x : IsSavedBlock f k d) → end_at k d ≡ back_of f (end_at k x.block)
  end_back k d x =
      let number = number_of_block f.coroutine k (length f.names) f.blocks in
      let end = back_end f.coroutine (length x.block.instrs) number x.block.instrs refl in
      let len : (end_at k d).at ≡ place_in f.coroutine (length x.block.instrs) number x.block.instrs + own_saves f.coroutine (slice_get x.block.instrs (length x.block.instrs)) = ap (λ (c : Block). length c.instrs) x.is ∙ sym end in
      let there : (back_of f (end_at k x.block)).at ≡ place_in f.coroutine (length x.block.instrs) number x.block.instrs + own_saves f.coroutine (slice_get x.block.instrs (length x.block.instrs)) = ap (λ (o : Option Block). place_in f.coroutine (length x.block.instrs) number (instrs_in o) + own_saves f.coroutine (slice_get (instrs_in o) (length x.block.instrs))) x.got in
      (λ i. record { block = k; at = (len ∙ sym there) i })

  pub outside_saved : NothingOutside f → NothingOutside late
  outside_saved h = record {
    instrs = λ y j e x. instr_saved h y j (origin f y j e) x;
    returns = λ k d e t x.
        let b = block_from f k d e in
        h.returns k b.block b.got (ap (λ (c : Block). is_return c.term) (sym b.is) ∙ t) (out_home (end_at k d) (end_at k b.block) (inr (end_back k d b)) x);
  }

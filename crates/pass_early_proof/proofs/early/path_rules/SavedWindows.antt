-- The windows of saves (rule K6), where saves are written.
use Rattle.std.proofs.Common.{◌≡◌, ◌⊎◌, inl, inr, ℕ, suc, ◌+◌, ◌<◌, ◌≤◌, Bool, true, false, List, [], ◌∷◌, ◌++◌, length, refl, sym, ap, ◌∙◌, subst, arith}
use Rattle.std.specs.Prelude.{IsTrue, Some, None, Option, map, option_and_then, option_map, slice_get, if◌then◌else◌, ◌&&◌, ◌==◌}
use Rattle.rule_laws.specs.ir_calls.Calls.{is_final}
use Rattle.rule_laws.proofs.ir_laws.paths.renamed.Outside.{where_pass}
use Rattle.pass_early.specs.Early.{save_call, saved}
use Rattle.pass_early_proof.proofs.early.path_rules.Moved.{IsOf, back_saved, back_stays, front_home, front_same, led_home, none_front}
use Rattle.pass_early_proof.proofs.early.path_rules.Origins.{HasOrigin, Kept, Suspended, Written, origin}
use Rattle.pass_early_proof.proofs.early.saves.Tokens.{bare_is}
use Rattle.rule_laws.proofs.rules.path_rules.Windows.{NoWrongWindow}
use Rattle.rule_laws.proofs.ir_laws.paths.path_rules.Windows.{got_has, is_save}
use Rattle.rule_laws.proofs.ir_laws.facts.Options.{passing_is}
use Rattle.ir_model.specs.Names.{is_local}
use Rattle.ir_model.specs.declared.instr.Instr.{Instr}
use Rattle.ir_model.specs.declared.module.Block.{Block}
use Rattle.ir_model.specs.declared.module.Function.{Function}
use Rattle.ir_model.specs.declared.operand.Intrinsic.{Intrinsic}
use Rattle.ir_model.specs.declared.operand.Operand.{Operand}
use Rattle.rule_laws.proofs.ir_paths.Search.{Has, either, eq_from, or_left, or_right, same_point-itself, same_point-same}
use Rattle.rule_laws.specs.ir_paths.Paths.{IsPath, Leads, has_point, nexts, same_point}
use Rattle.rule_laws.specs.ir_paths.Windows.{IsInWindow, call_operand, call_result, destroy_label, instr_at, is_call_of, is_suspend_of, label_at, points_from, points_in, points_where, resume_label}
use Rattle.rule_laws.specs.ir_paths.declared.point.Point.{Point}
use Rattle.pass_early_proof.proofs.early.saves.Apart.{back_back, front_back, front_front}
use Rattle.pass_early_proof.proofs.early.saves.Behind.{entry_saved}
use Rattle.pass_early_proof.proofs.early.saves.Blocks.{get_block}
use Rattle.pass_early_proof.proofs.early.saves.Instrs.{name_at}
use Rattle.pass_early_proof.proofs.early.saves.Saves.{each_here}
use Rattle.rule_laws.specs.ir_laws.paths.expanded.Avoided.{AreAvoided}
use Rattle.rule_laws.proofs.ir_laws.paths.expanded.Strands.{IsLedTo, IsOnlyNext, from_front, leads_forth, leads_home}
use Rattle.rule_laws.proofs.ir_laws.paths.expanded.Ways.{IsMovedFrom, map_has}
use Rattle.pass_early_proof.proofs.early.saves.Ways.{save_leads, strands, within}
use Rattle.rule_laws.proofs.ir_laws.paths.expanded.Windows.{instr_at_is}
use Rattle.pass_early_proof.proofs.early.saves.Windows.{suspend_bare, suspends_saved, are_avoided as window_avoided}
use Rattle.pass_early_proof.specs.early.saves.SavesWritten.{behind_save, behind_saves, is_bare, saved_block, saved_blocks, saved_function, with_saves}
use Rattle.pass_early_proof.specs.early.saves.Spots.{back_of, front_of, number_of_block, own_saves}
use Rattle.rule_laws.specs.ir_laws.facts.expanded.Spots.{instrs_in}
use Rattle.rule_laws.specs.run_laws.changed.Changed.{Each}
use Rattle.rule_laws.specs.ir_laws.paths.expanded.Tokens.{HasNamedToken, HasNamedTokens}
use Rattle.rule_laws.specs.ir_laws.facts.expanded.Tokens.{IsNamed}
use Rattle.rule_laws.specs.rule_windows.Windows.{Back, Between, BreaksWindow, Call, ComesBack, HasCall, HasWayBack, IsWrong, Left, NoPath, NotOne, ends_window, ends_window_at, is_final_at, own_edges, passes, suspends_of}
use Rattle.rule_laws.proofs.ir_laws.facts.Truth.{other_name as other_number}
use Rattle.rule_laws.proofs.ir_laws.paths.path_rules.SavedWindows.{neither}

not_itself : (p q : Point) → same_point p q ≡ false → p ≡ q → ⊥
not_itself p q h e = let t : false ≡ true = sym h ∙ ap (λ (x : Point). same_point x q) e ∙ same_point-itself q in cc

differs : (p q : Point) → (p ≡ q → ⊥) → same_point p q ≡ false
differs p q h = on (same_point p q) refl
  where
    on : (b : Bool) → same_point p q ≡ b → b ≡ false
    on true e = absurd (h (same_point-same p q e))
    on false e = refl

-- the only element of a mapped list
only_mapped : (move : Point → Point) (ps : List Point) (s : Point) → map move ps ≡ s ∷ [] → (t : Point) × ((ps ≡ t ∷ []) × (s ≡ move t))
only_mapped move [] s e = absurd (cc)
only_mapped move (t ∷ []) s e = let same : s ≡ move t = cc in (t, (refl, same))
only_mapped move (t ∷ u ∷ ps) s e = absurd (cc)

module _ (c : Bool) (least m : ℕ) (le : least ≤ m) where
  abbrev takes : Instr → Bool
  takes i = is_suspend_of (Some m) i

  later_local : (x : Operand) → IsNamed least x → is_local m x ≡ false
  later_local (Operand.Local v) h = other_number m v (omega (arith, le, h))
  later_local _ h = refl

  no_own : (i : Instr) → HasNamedToken least i → takes i ≡ false
  no_own i h = on (is_call_of Intrinsic.CoroSuspend i) (later_local (call_operand i 0) h.token)
    where
      on : (a : Bool) → is_local m (call_operand i 0) ≡ false → (a && is_local m (call_operand i 0)) ≡ false
      on true e = e
      on false e = refl

  saved_takes : (n : ℕ) (i : Instr) → is_bare c i ≡ true → takes (saved n i) ≡ (m == n)
  saved_takes n i e = let is = bare_is c i e in ap (λ (x : Instr). takes (saved n x)) is.is

  -- none of the points, or just one, whose number is among those of the saves that are written
  abbrev AtMostOne : ℕ → ℕ → List Point → Type 0
  AtMostOne n behind ps = (ps ≡ []) ⊎ ((q : Point) × ((ps ≡ q ∷ []) × (n ≤ m) × (m < behind)))

  more_behind : (n : ℕ) (is : List Instr) → n ≤ behind_saves c n is
  more_behind n [] = omega arith
  more_behind n (i ∷ is) = let again = more_behind (behind_save c n i) is in let step = on (is_bare c i) in omega (arith, again, step)
    where
      on : (b : Bool) → n ≤ (if b then n + 1 else n)
      on true = omega arith
      on false = omega arith

  one_in : (n : ℕ) (is : List Instr) (block at : ℕ) → Each (HasNamedToken least) is → AtMostOne n (behind_saves c n is) (points_from takes block at (with_saves c n is))
  one_in n [] block at named = inl refl
  one_in n (i ∷ is) block at named = on (is_bare c i) refl (λ k from. one_in k is block from named.1)
    where
      rest : ℕ → List Instr
      rest k = with_saves c k is

      point : ℕ → Point
      point k = record { block = block; at = k }

      here : (b : Bool) → (m == n) ≡ b → (at : ℕ) → AtMostOne (n + 1) (behind_saves c (n + 1) is) (points_from takes block (suc at) (rest (n + 1))) → AtMostOne n (behind_saves c (n + 1) is) (if b then point at ∷ points_from takes block (suc at) (rest (n + 1)) else points_from takes block (suc at) (rest (n + 1)))
      here true e k (inl none) =
          let same = eq_from m n e in
          let more = more_behind (n + 1) is in
          inr (point k, (ap (λ (ps : List Point). point k ∷ ps) none, omega (arith, same), omega (arith, same, more)))
      here true e k (inr x) = let same = eq_from m n e in let low = x.1.1 in absurd (omega (arith, same, low))
      here false e k (inl none) = inl none
      here false e k (inr x) = let low = x.1.1 in inr (x.0, (x.1.0, omega (arith, low), x.1.2))

      on : (b : Bool) → is_bare c i ≡ b → ((k from : ℕ) → AtMostOne k (behind_saves c k is) (points_from takes block from (rest k))) → AtMostOne n (behind_saves c (if b then n + 1 else n) is) (points_from takes block at ((if b then save_call n ∷ saved n i ∷ [] else i ∷ []) ++ rest (if b then n + 1 else n)))
      on true e again =
          subst (λ (t : Bool). AtMostOne n (behind_saves c (n + 1) is) (if t then point (suc at) ∷ points_from takes block (suc (suc at)) (rest (n + 1)) else points_from takes block (suc (suc at)) (rest (n + 1)))) (sym (saved_takes n i e))
          (here (m == n) refl (suc at) (again (n + 1) (suc (suc at))))
      on false e again =
          subst (λ (t : Bool). AtMostOne n (behind_saves c n is) (if t then point at ∷ points_from takes block (suc at) (rest n) else points_from takes block (suc at) (rest n))) (sym (no_own i named.0))
          (again n (suc at))

  pub one_by : (n block : ℕ) (bs : List Block) → Each (λ (b : Block). Each (HasNamedToken least) b.instrs) bs → (points_in takes block (saved_blocks c n bs) ≡ []) ⊎ ((q : Point) × ((points_in takes block (saved_blocks c n bs) ≡ q ∷ []) × (n ≤ m)))
  one_by n block [] named = inl refl
  one_by n block (b ∷ bs) named = on (one_in n b.instrs block 0 named.0) (one_by (behind_saves c n b.instrs) (suc block) bs named.1)
    where
      first : List Point
      first = points_from takes block 0 (with_saves c n b.instrs)

      others : List Point
      others = points_in takes (suc block) (saved_blocks c (behind_saves c n b.instrs) bs)

      on : AtMostOne n (behind_saves c n b.instrs) first → (others ≡ []) ⊎ ((q : Point) × ((others ≡ q ∷ []) × (behind_saves c n b.instrs ≤ m))) → (first ++ others ≡ []) ⊎ ((q : Point) × ((first ++ others ≡ q ∷ []) × (n ≤ m)))
      on (inl none) (inl empty) = inl (λ k. none k ++ empty k)
      on (inl none) (inr x) = let low = x.1.1 in let more = more_behind n b.instrs in inr (x.0, ((λ k. none k ++ x.1.0 k), omega (arith, low, more)))
      on (inr x) (inl empty) = inr (x.0, ((λ k. x.1.0 k ++ empty k), x.1.1))
      on (inr x) (inr y) = let high = x.1.2 in let low = y.1.1 in absurd (omega (arith, high, low))

-- ---- windows

module _ (f : Function) (named : HasNamedTokens f) where
  abbrev late : Function
  late = saved_function f

  here_is : (p : Point) (i : Instr) → instr_at f p ≡ Some i → slice_get (instrs_in (slice_get f.blocks p.block)) p.at ≡ Some i
  here_is p i e = sym (instr_at_is (slice_get f.blocks p.block) p.at) ∙ e

  token_of : (p : Point) (i : Instr) → instr_at f p ≡ Some i → HasNamedToken (length f.names) i
  token_of p i e = each_here (HasNamedToken (length f.names)) f.blocks named p i (here_is p i e)

  abbrev name_of : Point → ℕ
  name_of p = name_at f.coroutine p.at (number_of_block f.coroutine p.block (length f.names) f.blocks) (instrs_in (slice_get f.blocks p.block))

  -- where the edges of a suspend lead
  pub label_saved : (n : ℕ) (s : Point) → label_at n (slice_get late.blocks s.block) ≡ label_at n (slice_get f.blocks s.block)
  label_saved n s = ap (label_at n) (get_block f.coroutine s.block (length f.names) f.blocks) ∙ on (slice_get f.blocks s.block)
    where
      on : (o : Option Block) → label_at n (option_map (saved_block f.coroutine (number_of_block f.coroutine s.block (length f.names) f.blocks)) o) ≡ label_at n o
      on None = refl
      on (Some b) = refl

  own_saved : (t : Point) → own_edges late (back_of f t) ≡ map (front_of f) (own_edges f t)
  own_saved t =
      let first = entry_saved f (resume_label late (back_of f t)) (resume_label f t) (label_saved 0 t) in
      let second = entry_saved f (destroy_label late (back_of f t)) (destroy_label f t) (label_saved 1 t) in
      (λ k. first k ∷ second k ∷ [])

  -- ---- of a save that stood

  module _ (p t : Point) (lone_save : front_of f p ≡ back_of f p) (lone_suspend : front_of f t ≡ back_of f t) where
    abbrev avoided : List Point
    avoided = p ∷ t ∷ []

    abbrev besides : List Point
    besides = front_of f p ∷ back_of f t ∷ []

    both : AreAvoided (front_of f) (back_of f) avoided besides
    both = window_avoided f named p t lone_save lone_suspend

    not_save : (z q : Point) → IsOf f z q → same_point z (front_of f p) ≡ false → q ≡ p → ⊥
    not_save z q (inl e) h same = not_itself z (front_of f p) h (e ∙ ap (front_of f) same)
    not_save z q (inr e) h same = not_itself z (front_of f p) h (e ∙ ap (back_of f) same ∙ sym lone_save)

    not_suspend : (z q : Point) → IsOf f z q → same_point z (back_of f t) ≡ false → q ≡ t → ⊥
    not_suspend z q (inl e) h same = not_itself z (back_of f t) h (e ∙ ap (front_of f) same ∙ lone_suspend)
    not_suspend z q (inr e) h same = not_itself z (back_of f t) h (e ∙ ap (back_of f) same)

    leads_back : (z q : Point) → IsOf f z q → (q ≡ t → ⊥) → Leads late besides z (back_of f t) → Leads f avoided q t
    leads_back z q (inr e) other l = led_home f named avoided besides both q (back_of f t) t (inr refl) (subst (λ (x : Point). Leads late besides x (back_of f t)) e l)
    leads_back z q (inl e) other l = on (front_home f named avoided besides both q (back_of f t) t (inr refl) (subst (λ (x : Point). Leads late besides x (back_of f t)) e l))
      where
        on : (back_of f t ≡ back_of f q) ⊎ Leads f avoided q t → Leads f avoided q t
        on (inl same) = absurd (other (sym (back_back f t q same)))
        on (inr x) = x

    pub inside_home : (z q : Point) → IsOf f z q → IsInWindow late (front_of f p) (back_of f t) z → IsInWindow f p t q
    inside_home z q at w =
        let other = not_suspend z q at w.is_not_suspend in
        record {
          is_not_save = differs q p (not_save z q at w.is_not_save);
          is_not_suspend = differs q t other;
          from_save = led_home f named avoided besides both p z q at (subst (λ (x : Point). Leads late besides x z) lone_save w.from_save);
          to_suspend = leads_back z q at other w.to_suspend;
        }

    inside_front : (q : Point) → IsInWindow f p t q → IsInWindow late (front_of f p) (back_of f t) (front_of f q)
    inside_front q w =
        let off = neither p t q w.is_not_save w.is_not_suspend in
        let to = leads_forth f late (front_of f) (back_of f) (strands f) avoided besides both q t w.to_suspend in
        let from = leads_forth f late (front_of f) (back_of f) (strands f) avoided besides both p q w.from_save in
        record {
          is_not_save = differs (front_of f q) (front_of f p) (λ e. not_itself q p w.is_not_save (front_front f q p e));
          is_not_suspend = differs (front_of f q) (back_of f t) (λ e. not_itself q t w.is_not_suspend (front_back f q t e));
          from_save = subst (λ (x : Point). Leads late besides x (front_of f q)) (sym lone_save) from;
          to_suspend = from_front f late (front_of f) (back_of f) (strands f) avoided besides both q (back_of f t) (both.backs q off) (subst (λ (x : Point). Leads late besides (back_of f q) x) lone_suspend to);
        }

    -- a point of the window is the front or the back of one
    source : (z : Point) → IsInWindow late (front_of f p) (back_of f t) z → (q : Point) × IsOf f z q
    source z w =
        let l : IsLedTo f late (front_of f) (back_of f) (strands f) avoided besides both p z = leads_home f late (front_of f) (back_of f) (strands f) avoided besides both p z (subst (λ (x : Point). Leads late besides x z) lone_save w.from_save) in
        (l.point, l.is)

    -- a call that ends windows stood in the window
    call_home : HasCall late (front_of f p) (back_of f t) → HasCall f p t
    call_home h = on (instr_at late h.point) refl h.ends
      where
        by : (y : Instr) → ends_window y ≡ true → HasOrigin f h.point y → HasCall f p t
        by y c (Kept q e bare front back) = record { point = q; is_inside = inside_home h.point q (inl front) h.is_inside; ends = ap (passes ends_window) e ∙ c }
        by y c (Suspended q name i e bare le back same) = record { point = q; is_inside = inside_home h.point q (inr back) h.is_inside; ends = ap (passes ends_window) e ∙ (let is = bare_is f.coroutine i bare in ap ends_window is.is) }
        by y c (Written q name i e bare le front same) = record { point = q; is_inside = inside_home h.point q (inl front) h.is_inside; ends = ap (passes ends_window) e ∙ (let is = bare_is f.coroutine i bare in ap ends_window is.is) }

        on : (o : Option Instr) → instr_at late h.point ≡ o → passes ends_window o ≡ true → HasCall f p t
        on None e c = absurd (cc)
        on (Some y) e c = by y c (origin f h.point y e)

    way_home : HasWayBack late (front_of f p) (back_of f t) → HasWayBack f p t
    way_home h = record { first = from.point; is_first = from.there; comes_back = on h.comes_back }
      where
        from : IsMovedFrom (front_of f) (own_edges f t) h.first
        from = map_has (front_of f) (own_edges f t) h.first (ap (λ (ps : List Point). has_point ps h.first) (sym (own_saved t)) ∙ h.is_first)

        there : (back_of f t ≡ back_of f from.point) ⊎ Leads f avoided from.point t → same_point from.point p ≡ false → ComesBack f p t from.point
        there (inl e) n = inl (sym (back_back f t from.point e))
        there (inr l) n = inr (n, l)

        on : ComesBack late (front_of f p) (back_of f t) h.first → ComesBack f p t from.point
        on (inl e) = inl (front_back f from.point t (sym from.is ∙ e))
        on (inr x) =
            there (front_home f named avoided besides both from.point (back_of f t) t (inr refl) (subst (λ (z : Point). Leads late besides z (back_of f t)) from.is x.1))
            (differs from.point p (λ e. not_itself h.first (front_of f p) x.0 (from.is ∙ ap (front_of f) e)))

    bare_ends : (q : Point) (i : Instr) → instr_at f q ≡ Some i → is_bare f.coroutine i ≡ true → ends_window_at f q ≡ true
    bare_ends q i e bare = ap (passes ends_window) e ∙ (let is = bare_is f.coroutine i bare in ap ends_window is.is)

    -- an edge that leaves the window left it, or a suspend stood in it
    edge_home : (z q to : Point) → IsOf f z q → IsInWindow f p t q → Has (nexts late z) to → ¬ (IsInWindow late (front_of f p) (back_of f t) to) → same_point to (back_of f t) ≡ false → IsTrue (is_final_at f t) → IsWrong f p t
    edge_home z q to at inside edge outside other final = on at (kind (instr_at f q) refl)
      where
        from_back : z ≡ back_of f q → IsWrong f p t
        from_back e =
            let next = (strands f).home q to (ap (λ (x : Point). has_point (nexts late x) to) (sym e) ∙ edge) in
            Left final (record {
              from = q;
              to = next.point;
              is_inside = inside;
              is_edge = next.edge;
              is_outside = λ x. outside (subst (IsInWindow late (front_of f p) (back_of f t)) (sym next.is) (inside_front next.point x));
              is_not_suspend = differs next.point t (λ same. not_itself to (back_of f t) other (next.is ∙ ap (front_of f) same ∙ lone_suspend));
            })

        by_bare : (i : Instr) → instr_at f q ≡ Some i → (b : Bool) → is_bare f.coroutine i ≡ b → (front_of f q ≡ back_of f q) ⊎ IsTrue (ends_window_at f q)
        by_bare i e true bare = inr (bare_ends q i e bare)
        by_bare i e false bare = inl (front_same f named q i e bare)

        kind : (o : Option Instr) → instr_at f q ≡ o → (front_of f q ≡ back_of f q) ⊎ IsTrue (ends_window_at f q)
        kind None e = inl (none_front f q (sym (instr_at_is (slice_get f.blocks q.block) q.at) ∙ e))
        kind (Some i) e = by_bare i e (is_bare f.coroutine i) refl

        on : IsOf f z q → (front_of f q ≡ back_of f q) ⊎ IsTrue (ends_window_at f q) → IsWrong f p t
        on (inr e) x = from_back e
        on (inl e) (inl same) = from_back (e ∙ same)
        on (inl e) (inr ends) = Call (record { point = q; is_inside = inside; ends = ends })

    -- ---- what is wrong with the window then was wrong before

    wrong_home : (i : Instr) → instr_at f t ≡ Some i → IsWrong late (front_of f p) (back_of f t) → IsWrong f p t
    wrong_home i e (NoPath never) = NoPath (λ l. never (subst (λ (x : Point). Leads late besides x (back_of f t)) (sym lone_save) (subst (λ (x : Point). Leads late besides (back_of f p) x) lone_suspend (leads_forth f late (front_of f) (back_of f) (strands f) avoided besides both p t l))))
    wrong_home i e (Back h) = Back (way_home h)
    wrong_home i e (Call h) = Call (call_home h)
    wrong_home i e (Left final h) =
        let from = source h.from h.is_inside in
        edge_home h.from from.0 h.to from.1 (inside_home h.from from.0 from.1 h.is_inside) h.is_edge h.is_outside h.is_not_suspend (ap (passes is_final) e ∙ sym (is_final_back i e) ∙ final)
      where
        is_final_back : (i : Instr) → instr_at f t ≡ Some i → passes is_final (instr_at late (back_of f t)) ≡ is_final i
        is_final_back i e = by (is_bare f.coroutine i) refl
          where
            by : (b : Bool) → is_bare f.coroutine i ≡ b → passes is_final (instr_at late (back_of f t)) ≡ is_final i
            by true bare = ap (passes is_final) (back_saved f named t i e bare) ∙ (let is = bare_is f.coroutine i bare in ap (λ (x : Instr). is_final (saved (name_of t) x)) is.is ∙ sym (ap is_final is.is))
            by false bare = ap (passes is_final) (back_stays f named t i e bare)

  -- ---- of a save that is written

  module _ (p : Point) (i : Instr) (there : instr_at f p ≡ Some i) (bare : is_bare f.coroutine i ≡ true) where
    abbrev around : List Point
    around = front_of f p ∷ back_of f p ∷ []

    next_only : nexts late (front_of f p) ≡ back_of f p ∷ []
    next_only = save_leads f p i (here_is p i there) bare

    pub not_same : front_of f p ≡ back_of f p → ⊥
    not_same e =
        let own : own_saves f.coroutine (slice_get (instrs_in (slice_get f.blocks p.block)) p.at) ≡ 1 = ap (own_saves f.coroutine) (here_is p i there) ∙ ap (λ (t : Bool). if t then 1 else 0) bare in
        let at : (front_of f p).at ≡ (back_of f p).at = ap (λ (x : Point). x.at) e in
        omega (arith, own, at)

    only_back : (z : Point) → Has (nexts late (front_of f p)) z → z ≡ back_of f p
    only_back z h = on (either (same_point z (back_of f p)) false (ap (λ (ps : List Point). has_point ps z) (sym next_only) ∙ h))
      where
        on : (same_point z (back_of f p) ≡ true) ⊎ (false ≡ true) → z ≡ back_of f p
        on (inl e) = same_point-same z (back_of f p) e
        on (inr e) = absurd (cc)

    in_around : (z : Point) → has_point around z ≡ false → (z ≡ front_of f p → ⊥) × (z ≡ back_of f p → ⊥)
    in_around z h = (
      (λ e. let t : true ≡ false = sym (or_left (same_point z (front_of f p)) (has_point (back_of f p ∷ []) z) (ap (λ (x : Point). same_point x (front_of f p)) e ∙ same_point-itself (front_of f p))) ∙ h in cc),
      (λ e. let t : true ≡ false = sym (or_right (same_point z (front_of f p)) (has_point (back_of f p ∷ []) z) (or_left (same_point z (back_of f p)) false (ap (λ (x : Point). same_point x (back_of f p)) e ∙ same_point-itself (back_of f p)))) ∙ h in cc),
    )

    -- nothing stands between
    pub none_between : (z : Point) → IsInWindow late (front_of f p) (back_of f p) z → ⊥
    none_between z w = on w.from_save.between w.from_save.is_path
      where
        on : (between : List Point) → IsPath late around (front_of f p) between z → ⊥
        on [] h = not_itself z (back_of f p) w.is_not_suspend (only_back z h)
        on (v ∷ between) h = (in_around v h.1).1 (only_back v h.0)

    -- where an edge leads from the front or the back of a point
    next_of : (z q v : Point) → IsOf f z q → Has (nexts late z) v → (x : Point) × IsOf f v x
    next_of z q v (inr e) h = let next = (strands f).home q v (ap (λ (x : Point). has_point (nexts late x) v) (sym e) ∙ h) in (next.point, inl next.is)
    next_of z q v (inl e) h = on (within f q)
      where
        on : (front_of f q ≡ back_of f q) ⊎ IsOnlyNext late (front_of f q) (back_of f q) → (x : Point) × IsOf f v x
        on (inl same) = let next = (strands f).home q v (ap (λ (x : Point). has_point (nexts late x) v) (sym (e ∙ same)) ∙ h) in (next.point, inl next.is)
        on (inr only) = (q, inr (only.only v (ap (λ (x : Point). has_point (nexts late x) v) (sym e) ∙ h)))

    -- only the save leads to its suspend
    back_from : (z q : Point) → IsOf f z q → Has (nexts late z) (back_of f p) → z ≡ front_of f p
    back_from z q at h = on at (within f q)
      where
        not_front : (x : Point) → back_of f p ≡ front_of f x → ⊥
        not_front x e = not_same (ap (front_of f) (sym (front_back f x p (sym e))) ∙ sym e)

        from_back : z ≡ back_of f q → ⊥
        from_back e = let next = (strands f).home q (back_of f p) (ap (λ (x : Point). has_point (nexts late x) (back_of f p)) (sym e) ∙ h) in not_front next.point next.is

        on : IsOf f z q → (front_of f q ≡ back_of f q) ⊎ IsOnlyNext late (front_of f q) (back_of f q) → z ≡ front_of f p
        on (inr e) x = absurd (from_back e)
        on (inl e) (inl same) = absurd (from_back (e ∙ same))
        on (inl e) (inr only) =
            let last : back_of f p ≡ back_of f q = only.only (back_of f p) (ap (λ (x : Point). has_point (nexts late x) (back_of f p)) (sym e) ∙ h) in
            e ∙ ap (front_of f) (sym (back_back f p q last))

    no_way : (between : List Point) (z q : Point) → IsOf f z q → (z ≡ front_of f p → ⊥) → IsPath late around z between (back_of f p) → ⊥
    no_way [] z q at other h = other (back_from z q at h)
    no_way (v ∷ between) z q at other h = let x = next_of z q v at h.0 in no_way between v x.0 x.1 (in_around v h.1).0 h.2

    never_wrong : IsWrong late (front_of f p) (back_of f p) → ⊥
    never_wrong (NoPath never) = never (record { between = []; is_path = ap (λ (ps : List Point). has_point ps (back_of f p)) next_only ∙ or_left (same_point (back_of f p) (back_of f p)) false (same_point-itself (back_of f p)) })
    never_wrong (Back h) = on h.comes_back
      where
        from : IsMovedFrom (front_of f) (own_edges f p) h.first
        from = map_has (front_of f) (own_edges f p) h.first (ap (λ (ps : List Point). has_point ps h.first) (sym (own_saved p)) ∙ h.is_first)

        on : ComesBack late (front_of f p) (back_of f p) h.first → ⊥
        on (inl e) = not_same (ap (front_of f) (sym (front_back f from.point p (sym from.is ∙ e))) ∙ sym from.is ∙ e)
        on (inr x) = no_way x.1.between h.first from.point (inl from.is) (not_itself h.first (front_of f p) x.0) x.1.is_path
    never_wrong (Call h) = none_between h.point h.is_inside
    never_wrong (Left final h) = none_between h.from h.is_inside

    breaks_never : (name : ℕ) → length f.names ≤ name → instr_at late (front_of f p) ≡ Some (save_call name) → BreaksWindow late (front_of f p) → ⊥
    breaks_never name le e breaks = on (one_by f.coroutine (length f.names) name le (length f.names) 0 f.blocks named) breaks
      where
        suspends_are : suspends_of late (front_of f p) ≡ points_where (is_suspend_of (Some name)) late
        suspends_are = ap (λ (o : Option Instr). points_where (is_suspend_of (option_and_then call_result o)) late) e

        first : slice_get (suspends_of late (front_of f p)) 0 ≡ Some (back_of f p)
        first = suspend_bare f named p i (here_is p i there) bare

        last : (q : Point) → points_where (is_suspend_of (Some name)) late ≡ q ∷ [] → suspends_of late (front_of f p) ≡ back_of f p ∷ []
        last q same =
            let both : Some q ≡ Some (back_of f p) = sym (ap (λ (ps : List Point). slice_get ps 0) (suspends_are ∙ same)) ∙ first in
            let one : q ≡ back_of f p = cc in
            suspends_are ∙ same ∙ (λ k. one k ∷ [])

        by : suspends_of late (front_of f p) ≡ back_of f p ∷ [] → BreaksWindow late (front_of f p) → ⊥
        by same (NotOne never) = never (back_of f p) same
        by same (Between s e wrong) =
            let both : s ∷ [] ≡ back_of f p ∷ [] = sym e ∙ same in
            let one : s ≡ back_of f p = cc in
            never_wrong (subst (IsWrong late (front_of f p)) one wrong)

        on : (points_where (is_suspend_of (Some name)) late ≡ []) ⊎ ((q : Point) × ((points_where (is_suspend_of (Some name)) late ≡ q ∷ []) × (length f.names ≤ name))) → BreaksWindow late (front_of f p) → ⊥
        on (inl none) x = let no_first : None ≡ Some (back_of f p) = sym (ap (λ (ps : List Point). slice_get ps 0) (suspends_are ∙ none)) ∙ first in cc
        on (inr y) x = by (last y.0 y.1.0) x

  -- ---- the rule

  no_save : (name : ℕ) (i : Instr) → is_bare f.coroutine i ≡ true → is_save (saved name i) ≡ false
  no_save name i e = let is = bare_is f.coroutine i e in ap (λ (x : Instr). is_save (saved name x)) is.is

  pub lone_token : (v : Option ℕ) (i : Instr) → is_suspend_of v i ≡ true → is_bare f.coroutine i ≡ false
  lone_token None i e = absurd (cc)
  lone_token (Some v) i e = on (is_bare f.coroutine i) refl
    where
      on : (b : Bool) → is_bare f.coroutine i ≡ b → b ≡ false
      on true bare = let is = bare_is f.coroutine i bare in let t : false ≡ true = sym (ap (is_suspend_of (Some v)) is.is) ∙ e in absurd (cc)
      on false bare = refl

  -- a save that stood, and whose window isn't wrong
  breaks_home : (p : Point) (i : Instr) → instr_at f p ≡ Some i → is_bare f.coroutine i ≡ false → BreaksWindow late (front_of f p) → BreaksWindow f p
  breaks_home p i e bare breaks = on breaks
    where
      stands : instr_at late (front_of f p) ≡ Some i
      stands = ap (instr_at late) (front_same f named p i e bare) ∙ back_stays f named p i e bare

      ours : suspends_of f p ≡ points_where (is_suspend_of (call_result i)) f
      ours = ap (λ (o : Option Instr). points_where (is_suspend_of (option_and_then call_result o)) f) e

      moved : suspends_of late (front_of f p) ≡ map (back_of f) (suspends_of f p)
      moved =
          ap (λ (o : Option Instr). points_where (is_suspend_of (option_and_then call_result o)) late) stands
          ∙ suspends_saved f named (call_result i) (token_of p i e).result
          ∙ ap (map (back_of f)) (sym ours)

      on : BreaksWindow late (front_of f p) → BreaksWindow f p
      on (NotOne never) = NotOne (λ s d. never (back_of f s) (moved ∙ ap (map (back_of f)) d))
      on (Between s d wrong) =
          let one = only_mapped (back_of f) (suspends_of f p) s (sym moved ∙ d) in
          let t : Point = one.0 in
          let x = passing_is (is_suspend_of (call_result i)) (instr_at f t) (where_pass (is_suspend_of (call_result i)) f t (got_has (points_where (is_suspend_of (call_result i)) f) 0 t (ap (λ (ps : List Point). slice_get ps 0) (sym ours ∙ one.1.0)))) in
          Between t one.1.0 (wrong_home p t (front_same f named p i e bare) (front_same f named t x.0 x.1.0 (lone_token (call_result i) x.0 x.1.1)) x.0 x.1.0 (subst (IsWrong late (front_of f p)) one.1.1 wrong))

  pub windows_saved : NoWrongWindow f → NoWrongWindow late
  windows_saved h = record { each = λ y i e save breaks. by y i e save breaks (origin f y i e) }
    where
      by : (y : Point) (i : Instr) → instr_at late y ≡ Some i → is_save i ≡ true → BreaksWindow late y → HasOrigin f y i → ⊥
      by y i e save breaks (Kept p d bare front back) = h.each p i d save (breaks_home p i d bare (subst (BreaksWindow late) front breaks))
      by y i e save breaks (Suspended p name x d bare le back same) = let t : true ≡ false = sym save ∙ ap is_save same ∙ no_save name x bare in cc
      by y i e save breaks (Written p name x d bare le front same) = breaks_never p x d bare name le (ap (instr_at late) (sym front) ∙ e ∙ ap Some same) (subst (BreaksWindow late) front breaks)

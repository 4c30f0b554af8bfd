-- What stands behind the suspends of a function, and of the function whose saves are written out.
use Rattle.std.proofs.Common.{◌≡◌, ℕ, zero, suc, ◌+◌, ◌<◌, ◌≤◌, ◌⊎◌, inl, inr, ⊎_elim, Bool, true, false, List, [], ◌∷◌, ◌++◌, length, refl, sym, ap, ◌∙◌, subst, arith}
use Rattle.std.proofs.lemmas.Bool.{cases_lt}
use Rattle.std.specs.List.{list_any}
use Rattle.std.specs.Prelude.{Some, None, Option, flat_map, map, option_map, slice_get, unwrap_or, if◌then◌else◌, ◌||◌}
use Rattle.pass_early.specs.Early.{save_call, saved}
use Rattle.ir_model.specs.Names.{first_where}
use Rattle.ir_model.specs.declared.instr.Instr.{Instr}
use Rattle.ir_model.specs.declared.module.Block.{Block}
use Rattle.ir_model.specs.declared.module.Function.{Function}
use Rattle.ir_model.specs.declared.operand.Intrinsic.{Intrinsic}
use Rattle.rule_laws.proofs.ir_paths.Search.{Has, either, leads-more, or_left, or_right, same_point-itself, same_point-same}
use Rattle.rule_laws.specs.ir_paths.Paths.{Leads, block_points, entry_point, has_point, nexts, same_point}
use Rattle.rule_laws.specs.ir_paths.Slots.{IsBehindSuspend, behind_suspends, end_points, points_at}
use Rattle.rule_laws.specs.ir_paths.Windows.{destroy_label, end_block, is_call_of, label_at, points_where, resume_label}
use Rattle.rule_laws.specs.ir_paths.declared.point.Point.{Point}
use Rattle.pass_early_proof.proofs.early.saves.Apart.{back_back, front_back}
use Rattle.rule_laws.proofs.ir_laws.facts.Truth.{same_truth}
use Rattle.pass_early_proof.proofs.early.saves.Blocks.{first_block, get_block, length_blocks, position_saved}
use Rattle.rule_laws.proofs.ir_laws.facts.Lists.{place_far}
use Rattle.pass_early_proof.proofs.early.saves.Instrs.{back_end, back_inside}
use Rattle.rule_laws.specs.run_laws.changed.Changed.{Each}
use Rattle.pass_early_proof.proofs.early.saves.Points.{own_group, points_moved}
use Rattle.pass_early_proof.proofs.early.saves.Saves.{each_trivial}
use Rattle.rule_laws.specs.ir_laws.paths.expanded.Avoided.{AreAvoided}
use Rattle.rule_laws.proofs.ir_laws.paths.expanded.Strands.{IsLedTo, IsOnlyNext, ahead_home, from_front, leads_forth, leads_home}
use Rattle.pass_early_proof.proofs.early.saves.Tokens.{bare_is}
use Rattle.rule_laws.proofs.ir_laws.paths.expanded.Ways.{IsMovedFrom, has_map, map_has}
use Rattle.pass_early_proof.proofs.early.saves.Ways.{strands, within}
use Rattle.pass_early_proof.specs.early.saves.SavesWritten.{behind_save, is_bare, saved_block, saved_blocks, saved_function, with_save, with_saves}
use Rattle.pass_early_proof.specs.early.saves.Spots.{back_of, front_of, number_of_block, own_saves, place_in}
use Rattle.rule_laws.specs.ir_laws.facts.expanded.Spots.{instrs_in}
use Rattle.rule_laws.proofs.ir_laws.facts.Members.{each_unit}

-- ---- tests of a whole block

any_append : (test : Instr → Bool) (xs ys : List Instr) → list_any test (xs ++ ys) ≡ (list_any test xs || list_any test ys)
any_append test [] ys = refl
any_append test (x ∷ xs) ys = on (test x) (any_append test xs ys)
  where
    on : (b : Bool) → list_any test (xs ++ ys) ≡ (list_any test xs || list_any test ys) → (b || list_any test (xs ++ ys)) ≡ ((b || list_any test xs) || list_any test ys)
    on true e = refl
    on false e = e

-- some instruction passes a test, as some did before
pub any_saved : (c : Bool) (t u : Instr → Bool) (least : ℕ) (P : Instr → Type 0) → ((n : ℕ) (i : Instr) → least ≤ n → P i → list_any u (with_save c n i) ≡ t i) → (is : List Instr) → Each P is → (n : ℕ) → least ≤ n → list_any u (with_saves c n is) ≡ list_any t is
any_saved c t u least P groups [] h n le = refl
any_saved c t u least P groups (i ∷ is) h n le =
    let first = groups n i le h.0 in
    let rest = any_saved c t u least P groups is h.1 (behind_save c n i) (more (is_bare c i)) in
    any_append u (with_save c n i) (with_saves c (behind_save c n i) is) ∙ (λ j. first j || rest j)
  where
    more : (b : Bool) → least ≤ (if b then n + 1 else n)
    more true = omega arith
    more false = le

end_group : (c : Bool) (n : ℕ) (i : Instr) → list_any (is_call_of Intrinsic.CoroEnd) (with_save c n i) ≡ is_call_of Intrinsic.CoroEnd i
end_group c n i = on (is_bare c i) refl
  where
    alone : (a : Bool) → (a || false) ≡ a
    alone true = refl
    alone false = refl

    on : (b : Bool) → is_bare c i ≡ b → list_any (is_call_of Intrinsic.CoroEnd) (if b then save_call n ∷ saved n i ∷ [] else i ∷ []) ≡ is_call_of Intrinsic.CoroEnd i
    on true e =
        let is = bare_is c i e in
        ap (λ (x : Instr). list_any (is_call_of Intrinsic.CoroEnd) (save_call n ∷ saved n x ∷ [])) is.is ∙ sym (ap (is_call_of Intrinsic.CoroEnd) is.is)
    on false e = alone (is_call_of Intrinsic.CoroEnd i)

pub end_saved : (f : Function) → end_block (saved_function f) ≡ end_block f
end_saved f =
    ap (λ (o : Option ℕ). unwrap_or o (length (saved_blocks f.coroutine (length f.names) f.blocks)))
    (first_block (λ (b : Block). list_any (is_call_of Intrinsic.CoroEnd) b.instrs)
    (λ c n b. any_saved c (is_call_of Intrinsic.CoroEnd) (is_call_of Intrinsic.CoroEnd) 0 (λ i. Unit {0}) (λ k i le p. end_group c k i) b.instrs (each_unit b.instrs) n (omega arith))
    f.coroutine (length f.names) f.blocks)
    ∙ ap (unwrap_or (first_where (λ (b : Block). list_any (is_call_of Intrinsic.CoroEnd) b.instrs) f.blocks)) (length_blocks f.coroutine (length f.names) f.blocks)

-- ---- the points of a block

pub record IsWithin (block len : ℕ) (p : Point) : Type 0 where
  pub block_is : p.block ≡ block
  pub at_most : p.at ≤ len

same_at : (p : Point) (block at : ℕ) → p.block ≡ block → p.at ≡ at → same_point p (record { block = block; at = at }) ≡ true
same_at p block at e s =
    let is : p ≡ record { block = block; at = at } = λ i. record { block = e i; at = s i } in
    ap (λ (x : Point). same_point x (record { block = block; at = at })) is ∙ same_point-itself (record { block = block; at = at })

within_block : (block len : ℕ) (p : Point) → IsWithin block len p → Has (block_points block len) p
within_block block zero p w = or_left (same_point p (record { block = block; at = 0 })) false (same_at p block 0 w.block_is (let le = w.at_most in omega (arith, le)))
within_block block (suc n) p w = ⊎_elim
    (λ (lt : p.at < suc n). or_right (same_point p (record { block = block; at = suc n })) (has_point (block_points block n) p) (within_block block n p (record { block_is = w.block_is; at_most = omega arith })))
    (λ (ge : suc n ≤ p.at). or_left (same_point p (record { block = block; at = suc n })) (has_point (block_points block n) p) (same_at p block (suc n) w.block_is (let le = w.at_most in omega (arith, le))))
    (cases_lt p.at (suc n))

block_within : (block len : ℕ) (p : Point) → Has (block_points block len) p → IsWithin block len p
block_within block zero p h = on (either (same_point p (record { block = block; at = 0 })) false h)
  where
    on : (same_point p (record { block = block; at = 0 }) ≡ true) ⊎ (false ≡ true) → IsWithin block 0 p
    on (inl e) = let s = same_point-same p (record { block = block; at = 0 }) e in record { block_is = ap (λ (x : Point). x.block) s; at_most = let z = ap (λ (x : Point). x.at) s in omega (arith, z) }
    on (inr e) = absurd (cc)
block_within block (suc n) p h = on (either (same_point p (record { block = block; at = suc n })) (has_point (block_points block n) p) h) (block_within block n p)
  where
    on : (same_point p (record { block = block; at = suc n }) ≡ true) ⊎ Has (block_points block n) p → (Has (block_points block n) p → IsWithin block n p) → IsWithin block (suc n) p
    on (inl e) again = let s = same_point-same p (record { block = block; at = suc n }) e in record { block_is = ap (λ (x : Point). x.block) s; at_most = let z = ap (λ (x : Point). x.at) s in omega (arith, z) }
    on (inr m) again = let w = again m in record { block_is = w.block_is; at_most = let le = w.at_most in omega (arith, le) }

module _ (f : Function) where
  abbrev g : Function
  g = saved_function f

  abbrev number : ℕ → ℕ
  number block = number_of_block f.coroutine block (length f.names) f.blocks

  abbrev end : ℕ
  end = end_block f

  -- the points of the end block, by the block
  end_points_saved : end_points g ≡ points_at end (option_map (saved_block f.coroutine (number end)) (slice_get f.blocks end))
  end_points_saved = ap (λ (e : ℕ). points_at e (slice_get (saved_function f).blocks e)) (end_saved f) ∙ ap (points_at end) (get_block f.coroutine end (length f.names) f.blocks)

  -- a point of the end block has its front and its back there, and no other one has
  abbrev IsEnding : Point → (at : ℕ) → Type 0
  IsEnding p at = has_point (end_points g) (record { block = p.block; at = at }) ≡ has_point (end_points f) p

  ending_by : (p : Point) (at : ℕ) → ((b : Block) → slice_get f.blocks p.block ≡ Some b → p.at ≤ length b.instrs → at ≤ length (with_saves f.coroutine (number p.block) b.instrs)) → ((b : Block) → slice_get f.blocks p.block ≡ Some b → length b.instrs < p.at → length (with_saves f.coroutine (number p.block) b.instrs) < at) → IsEnding p at
  ending_by p at inside outside =
      ap (λ (ps : List Point). has_point ps (record { block = p.block; at = at })) end_points_saved ∙ on (slice_get f.blocks end) refl
    where
      to : Point
      to = record { block = p.block; at = at }

      on : (o : Option Block) → slice_get f.blocks end ≡ o → has_point (points_at end (option_map (saved_block f.coroutine (number end)) o)) (record { block = p.block; at = at }) ≡ has_point (points_at end o) p
      on None e = refl
      on (Some b) e = same_truth _ _ down up
        where
          there : p.block ≡ end → slice_get f.blocks p.block ≡ Some b
          there s = ap (slice_get f.blocks) s ∙ e

          len : p.block ≡ end → length (with_saves f.coroutine (number p.block) b.instrs) ≡ length (with_saves f.coroutine (number end) b.instrs)
          len s = ap (λ (k : ℕ). length (with_saves f.coroutine (number k) b.instrs)) s

          down : has_point (block_points end (length (with_saves f.coroutine (number end) b.instrs))) (record { block = p.block; at = at }) ≡ true → has_point (block_points end (length b.instrs)) p ≡ true
          down h =
              let w = block_within end (length (with_saves f.coroutine (number end) b.instrs)) (record { block = p.block; at = at }) h in
              ⊎_elim
              (λ (lt : length b.instrs < p.at). let far = outside b (there w.block_is) lt in let most = w.at_most in let same = len w.block_is in absurd (omega (arith, far, most, same)))
              (λ (le : p.at ≤ length b.instrs). within_block end (length b.instrs) p (record { block_is = w.block_is; at_most = le }))
              (cases_lt (length b.instrs) p.at)

          up : has_point (block_points end (length b.instrs)) p ≡ true → has_point (block_points end (length (with_saves f.coroutine (number end) b.instrs))) (record { block = p.block; at = at }) ≡ true
          up h =
              let w = block_within end (length b.instrs) p h in
              let near = inside b (there w.block_is) w.at_most in
              let same = len w.block_is in
              within_block end (length (with_saves f.coroutine (number end) b.instrs)) (record { block = p.block; at = at }) (record { block_is = w.block_is; at_most = omega (arith, near, same) })

  back_near : (p : Point) (b : Block) → slice_get f.blocks p.block ≡ Some b → p.at ≤ length b.instrs → (back_of f p).at ≤ length (with_saves f.coroutine (number p.block) b.instrs)
  back_near p b e le =
      let place : (back_of f p).at ≡ place_in f.coroutine p.at (number p.block) b.instrs + own_saves f.coroutine (slice_get b.instrs p.at) = ap (λ (o : Option Block). place_in f.coroutine p.at (number p.block) (instrs_in o) + own_saves f.coroutine (slice_get (instrs_in o) p.at)) e in
      ⊎_elim
      (λ (lt : p.at < length b.instrs). let near = back_inside f.coroutine p.at (number p.block) b.instrs lt in omega (arith, place, near))
      (λ (ge : length b.instrs ≤ p.at). let near = back_end f.coroutine p.at (number p.block) b.instrs (omega arith) in omega (arith, place, near))
      (cases_lt p.at (length b.instrs))

  front_far : (p : Point) (b : Block) → slice_get f.blocks p.block ≡ Some b → length b.instrs < p.at → length (with_saves f.coroutine (number p.block) b.instrs) < (front_of f p).at
  front_far p b e lt =
      let place : (front_of f p).at ≡ place_in f.coroutine p.at (number p.block) b.instrs = ap (λ (o : Option Block). place_in f.coroutine p.at (number p.block) (instrs_in o)) e in
      let far = place_far (with_save f.coroutine) (behind_save f.coroutine) p.at (number p.block) b.instrs lt in
      omega (arith, place, far)

  pub front_ending : (p : Point) → has_point (end_points g) (front_of f p) ≡ has_point (end_points f) p
  front_ending p = ending_by p (front_of f p).at (λ b e le. let near = back_near p b e le in omega (arith, near)) (front_far p)

  pub back_ending : (p : Point) → has_point (end_points g) (back_of f p) ≡ has_point (end_points f) p
  back_ending p = ending_by p (back_of f p).at (back_near p) (λ b e lt. let far = front_far p b e lt in omega (arith, far))

  pub ends_avoided : AreAvoided (front_of f) (back_of f) (end_points f) (end_points g)
  ends_avoided = record {
    fronts = λ p h. front_ending p ∙ h;
    backs = λ p h. back_ending p ∙ h;
    home = λ p h k. sym (front_ending p) ∙ h;
  }

  -- ---- where the resume and destroy edges lead

  abbrev is_suspend : Instr → Bool
  is_suspend i = is_call_of Intrinsic.CoroSuspend i

  pub suspends_moved : points_where is_suspend g ≡ map (back_of f) (points_where is_suspend f)
  suspends_moved =
      points_moved f.coroutine is_suspend is_suspend (own_saves f.coroutine) 0 (λ i. Unit {0})
      (λ n i le p block at. own_group f.coroutine is_suspend is_suspend n i (record {
        save = λ e. refl;
        saved_one = λ e. let is = bare_is f.coroutine i e in ap (λ (x : Instr). is_suspend (saved n x)) is.is ∙ sym (ap is_suspend is.is);
        lone = λ e. refl;
      }) block at)
      f.blocks (each_trivial f.blocks) (length f.names) (omega arith)

  label_saved : (n : ℕ) (s : Point) → label_at n (slice_get (saved_function f).blocks s.block) ≡ label_at n (slice_get f.blocks s.block)
  label_saved n s = ap (label_at n) (get_block f.coroutine s.block (length f.names) f.blocks) ∙ on (slice_get f.blocks s.block)
    where
      on : (o : Option Block) → label_at n (option_map (saved_block f.coroutine (number s.block)) o) ≡ label_at n o
      on None = refl
      on (Some b) = refl

  pub entry_saved : (a b : ℕ) → a ≡ b → entry_point (saved_function f) a ≡ front_of f (entry_point f b)
  entry_saved a b e = ap (entry_point (saved_function f)) e ∙ ap (λ (k : ℕ). record { block = k; at = 0 }) (position_saved f b)

  abbrev edges_in : Function → Point → List Point
  edges_in h s = entry_point h (resume_label h s) ∷ entry_point h (destroy_label h s) ∷ []

  edges_saved : (ss : List Point) → flat_map (edges_in g) (map (back_of f) ss) ≡ map (front_of f) (flat_map (edges_in f) ss)
  edges_saved [] = refl
  edges_saved (s ∷ ss) =
      let first = entry_saved (resume_label g (back_of f s)) (resume_label f s) (label_saved 0 s) in
      let second = entry_saved (destroy_label g (back_of f s)) (destroy_label f s) (label_saved 1 s) in
      let rest = edges_saved ss in
      λ i. first i ∷ second i ∷ rest i

  pub edges_moved : behind_suspends g ≡ map (front_of f) (behind_suspends f)
  edges_moved = ap (flat_map (edges_in g)) suspends_moved ∙ edges_saved (points_where is_suspend f)

  -- ---- what stands behind them

  abbrev Ahead : Point → Point → Type 0
  Ahead p y = Leads g (end_points g) p y

  to_back : (first p : Point) → has_point (end_points f) p ≡ false → Ahead (front_of f first) (front_of f p) → Ahead (front_of f first) (back_of f p)
  to_back first p n l = ⊎_elim
      (λ (s : front_of f p ≡ back_of f p). subst (λ (x : Point). Ahead (front_of f first) x) s l)
      (λ (i : IsOnlyNext g (front_of f p) (back_of f p)). leads-more g (end_points g) (front_of f first) (front_of f p) (back_of f p) l (front_ending p ∙ n) i.edge)
      (within f p)

  pub behind_forth : (p : Point) → IsBehindSuspend f p → IsBehindSuspend g (back_of f p)
  behind_forth p b = record {
    first = front_of f b.first;
    is_first = ap (λ (ps : List Point). has_point ps (front_of f b.first)) edges_moved ∙ has_map (front_of f) (behind_suspends f) b.first b.is_first;
    path = path b.path;
    is_not_in_end = back_ending p ∙ b.is_not_in_end;
  }
    where
      here : b.first ≡ p → (front_of f p ≡ back_of f p) ⊎ IsOnlyNext g (front_of f p) (back_of f p) → (front_of f b.first ≡ back_of f p) ⊎ ((has_point (end_points g) (front_of f b.first) ≡ false) × Ahead (front_of f b.first) (back_of f p))
      here e (inl s) = inl (ap (front_of f) e ∙ s)
      here e (inr i) = inr (
        ap (λ (x : Point). has_point (end_points g) (front_of f x)) e ∙ front_ending p ∙ b.is_not_in_end,
        record { between = []; is_path = subst (λ (x : Point). Has (nexts g (front_of f x)) (back_of f p)) (sym e) i.edge },
      )

      path : (b.first ≡ p) ⊎ ((has_point (end_points f) b.first ≡ false) × Leads f (end_points f) b.first p) → (front_of f b.first ≡ back_of f p) ⊎ ((has_point (end_points g) (front_of f b.first) ≡ false) × Ahead (front_of f b.first) (back_of f p))
      path (inl e) = here e (within f p)
      path (inr l) = inr (
        front_ending b.first ∙ l.0,
        to_back b.first p b.is_not_in_end
            (from_front f g (front_of f) (back_of f) (strands f) (end_points f) (end_points g) ends_avoided b.first (front_of f p) (back_ending b.first ∙ l.0)
            (leads_forth f g (front_of f) (back_of f) (strands f) (end_points f) (end_points g) ends_avoided b.first p l.1)),
      )

  abbrev LedTo : Point → Point → Type 0
  LedTo p y = IsLedTo f g (front_of f) (back_of f) (strands f) (end_points f) (end_points g) ends_avoided p y

  to_point : (p q : Point) → LedTo p (back_of f q) → Leads f (end_points f) p q
  to_point p q l = subst (λ (x : Point). Leads f (end_points f) p x) (on l.is) l.leads
    where
      on : (back_of f q ≡ front_of f l.point) ⊎ (back_of f q ≡ back_of f l.point) → l.point ≡ q
      on (inl e) = front_back f l.point q (sym e)
      on (inr e) = back_back f l.point q (sym e)

  pub behind_home : (p : Point) → IsBehindSuspend g (back_of f p) → IsBehindSuspend f p
  behind_home p b = record {
    first = from.point;
    is_first = from.there;
    path = path b.path;
    is_not_in_end = sym (back_ending p) ∙ b.is_not_in_end;
  }
    where
      from : IsMovedFrom (front_of f) (behind_suspends f) b.first
      from = map_has (front_of f) (behind_suspends f) b.first (ap (λ (ps : List Point). has_point ps b.first) (sym edges_moved) ∙ b.is_first)

      outside : has_point (end_points g) b.first ≡ false → has_point (end_points f) from.point ≡ false
      outside n = sym (front_ending from.point) ∙ ap (λ (x : Point). has_point (end_points g) x) (sym from.is) ∙ n

      ahead : has_point (end_points f) from.point ≡ false → (back_of f p ≡ back_of f from.point) ⊎ ((has_point (end_points g) (back_of f from.point) ≡ false) × LedTo from.point (back_of f p)) → (from.point ≡ p) ⊎ ((has_point (end_points f) from.point ≡ false) × Leads f (end_points f) from.point p)
      ahead n (inl e) = inl (sym (back_back f p from.point e))
      ahead n (inr l) = inr (n, to_point from.point p l.1)

      on : has_point (end_points f) from.point ≡ false → Ahead (front_of f from.point) (back_of f p) → (front_of f from.point ≡ back_of f from.point) ⊎ IsOnlyNext g (front_of f from.point) (back_of f from.point) → (from.point ≡ p) ⊎ ((has_point (end_points f) from.point ≡ false) × Leads f (end_points f) from.point p)
      on n l (inl e) = inr (n, to_point from.point p (leads_home f g (front_of f) (back_of f) (strands f) (end_points f) (end_points g) ends_avoided from.point (back_of f p) (subst (λ (x : Point). Ahead x (back_of f p)) e l)))
      on n l (inr i) = ahead n (ahead_home f g (front_of f) (back_of f) (strands f) (end_points f) (end_points g) ends_avoided from.point (back_of f p) i l)

      path : (b.first ≡ back_of f p) ⊎ ((has_point (end_points g) b.first ≡ false) × Ahead b.first (back_of f p)) → (from.point ≡ p) ⊎ ((has_point (end_points f) from.point ≡ false) × Leads f (end_points f) from.point p)
      path (inl e) = inl (front_back f from.point p (sym from.is ∙ e))
      path (inr l) = on (outside l.0) (subst (λ (x : Point). Ahead x (back_of f p)) from.is l.1) (within f from.point)

-- A function and the same with its saves written out are alike, so far as slots go.
use Rattle.std.proofs.Common.{◌≡◌, ℕ, ◌+◌, ◌<◌, ◌≤◌, ◌⊎◌, inl, inr, ⊎_elim, Bool, true, false, List, [], ◌∷◌, length, refl, sym, ap, ◌∙◌, subst, arith, add-zero}
use Rattle.std.proofs.lemmas.Bool.{cases_lt}
use Rattle.std.specs.List.{list_any}
use Rattle.std.specs.Prelude.{Some, None, Option, option_and_then, option_map, option_to_list, slice_get, if◌then◌else◌, ◌||◌}
use Rattle.rule_laws.specs.ir_laws.facts.renamed.Regular.{passes}
use Rattle.pass_early_proof.proofs.early.crossing.Unsaved.{each_from, more_block, more_name}
use Rattle.pass_early_proof.proofs.early.saves.Tokens.{bare_is}
use Rattle.pass_early_proof.proofs.early.slots.Edges.{strands}
use Rattle.pass_early_proof.proofs.early.saves.Ways.{save_leads}
use Rattle.rule_laws.proofs.ir_laws.paths.alike_slots.Names.{HoldsSlot, address_holds, addresses_hold, alloca_holds}
use Rattle.rule_laws.proofs.ir_laws.facts.Members.{any_same}
use Rattle.rule_laws.proofs.ir_laws.paths.alike_slots.SlotsAlike.{AreLone}
use Rattle.rule_laws.proofs.frames.alike_slots.SlotsAlike.{AreSlotsAlike}
use Rattle.rule_laws.proofs.frames.alike_slots.Strands.{IsOf}
use Rattle.rule_laws.proofs.frames.alike_slots.Tests.{IsPassed, passed, where_is}
use Rattle.rule_laws.proofs.frames.alike_slots.Windows.{IsIn, in_some, some_in, window_forth, window_home}
use Rattle.pass_early.specs.Early.{save_call, saved}
use Rattle.rule_laws.specs.flow_solver.Paths.{IsListed}
use Rattle.ir_model.specs.Names.{is_local}
use Rattle.ir_model.specs.declared.instr.Instr.{Instr}
use Rattle.ir_model.specs.declared.module.Block.{Block}
use Rattle.ir_model.specs.declared.module.Function.{Function}
use Rattle.ir_model.specs.declared.operand.Intrinsic.{Intrinsic}
use Rattle.rule_laws.proofs.ir_paths.Right.{facts_of_right}
use Rattle.rule_laws.proofs.ir_paths.Search.{Has, or_left, or_right, same_point-itself}
use Rattle.rule_laws.specs.ir_paths.Paths.{IsPath, has_point, same_point}
use Rattle.rule_laws.specs.ir_paths.Slots.{IsRampSlot, addresses_of, allocas_of, exposed_in_block, exposes, has_name, is_escaped, occurs, occurs_in_phi, occurs_in_term}
use Rattle.rule_laws.specs.ir_paths.Windows.{IsInWindow, call_result, instr_at, is_call_of, is_suspend_of, label_at, points_where, suspend_of}
use Rattle.rule_laws.specs.ir_paths.declared.point.Point.{Point}
use Rattle.rule_laws.specs.flow_reach.Reached.{IsPointOf}
use Rattle.pass_early_proof.proofs.early.saves.Behind.{any_saved, back_ending, end_saved, front_ending, suspends_moved}
use Rattle.pass_early_proof.proofs.early.saves.Blocks.{get_block, instrs_saved, length_blocks, position_saved}
use Rattle.rule_laws.proofs.ir_laws.facts.Lists.{place_far}
use Rattle.pass_early_proof.proofs.early.saves.Instrs.{back_end, back_inside, back_past, instr_then, name_at}
use Rattle.pass_early_proof.proofs.early.saves.Parts.{at_back}
use Rattle.pass_early_proof.proofs.early.saves.Saves.{each_here}
use Rattle.pass_early_proof.proofs.early.saves.Slots.{same_addresses, same_allocas, same_promise, same_ramp_slots}
use Rattle.pass_early_proof.proofs.early.saves.Windows.{front_bare, suspend_bare, suspend_lone}
use Rattle.rule_laws.proofs.ir_laws.paths.expanded.Windows.{instr_at_is}
use Rattle.pass_early_proof.specs.early.saves.SavesWritten.{behind_save, behind_saves, is_bare, saved_block, saved_blocks, saved_function, with_save, with_saves}
use Rattle.pass_early_proof.specs.early.saves.Spots.{back_of, front_of, number_of_block, own_saves, place_in}
use Rattle.rule_laws.specs.ir_laws.facts.expanded.Spots.{instrs_in}
use Rattle.rule_laws.specs.run_laws.changed.Changed.{Each}
use Rattle.rule_laws.specs.ir_laws.paths.expanded.Tokens.{HasNamedToken, HasNamedTokens}
use Rattle.rule_laws.specs.rule_slots.Closed.{IsInSomeWindow}
use Rattle.rule_laws.specs.rule_slots.Early.{end_at, instr_count}
use Rattle.rule_laws.specs.frame_slots.Uses.{UsesAt, is_marker_of, is_no_use_in}
use Rattle.rule_laws.specs.frame_slots.Uses.UsesAt.{ByInstr, ByTerm}
use Rattle.rule_laws.proofs.frame_crossing.Numbering.{name_at as name_there}
use Rattle.rule_laws.specs.rule_window_values.Kept.{TakesFrom, phis_at, phis_in}

-- what stands at a list's first position is in it
first_has : (ps : List Point) (s : Point) → slice_get ps 0 ≡ Some s → Has ps s
first_has [] s e = absurd (cc)
first_has (p ∷ ps) s e = let same : p ≡ s = cc in or_left (same_point s p) (has_point ps s) (ap (same_point s) same ∙ same_point-itself s)

-- ---- bare suspends

not_equal : (v n : ℕ) → v < n → Rattle.std.specs.Prelude.nat_eq v n ≡ false
not_equal v n lt = on (Rattle.std.specs.Prelude.nat_eq v n) refl
  where
    on : (b : Bool) → Rattle.std.specs.Prelude.nat_eq v n ≡ b → Rattle.std.specs.Prelude.nat_eq v n ≡ false
    on true e = let same = Rattle.rule_laws.proofs.ir_paths.Search.eq_from v n e in absurd (omega arith)
    on false e = e

module _ (c : Bool) (i : Instr) (bare : is_bare c i ≡ true) where
  bare_no_suspend : (r : Option ℕ) → is_suspend_of r i ≡ false
  bare_no_suspend None = refl
  bare_no_suspend (Some v) = let is = bare_is c i bare in ap (is_suspend_of (Some v)) is.is

  bare_no_save : is_call_of Intrinsic.CoroSave i ≡ false
  bare_no_save = let is = bare_is c i bare in ap (is_call_of Intrinsic.CoroSave) is.is

  saved_no_save : (n : ℕ) → is_call_of Intrinsic.CoroSave (saved n i) ≡ false
  saved_no_save n = let is = bare_is c i bare in ap (λ (x : Instr). is_call_of Intrinsic.CoroSave (saved n x)) is.is

  saved_used : (n : ℕ) → is_no_use_in (saved n i) ≡ is_no_use_in i
  saved_used n = let is = bare_is c i bare in ap (λ (x : Instr). is_no_use_in (saved n x)) is.is ∙ sym (ap is_no_use_in is.is)

  saved_occurs : (v n : ℕ) → v < n → occurs v (saved n i) ≡ occurs v i
  saved_occurs v n lt =
      let is = bare_is c i bare in
      ap (λ (x : Instr). occurs v (saved n x)) is.is
      ∙ ap (λ (t : Bool). t || list_any (λ a. is_local v a.value) is.args) (not_equal v n lt)
      ∙ sym (ap (occurs v) is.is)

  saved_exposes : (v n : ℕ) → v < n → exposes v (saved n i) ≡ exposes v i
  saved_exposes v n lt =
      let is = bare_is c i bare in
      ap (λ (x : Instr). exposes v (saved n x)) is.is
      ∙ ap (λ (t : Bool). t || list_any (λ a. is_local v a.value) is.args) (not_equal v n lt)
      ∙ sym (ap (exposes v) is.is)

-- ---- exposed names

module _ (c : Bool) (v least : ℕ) (lt : v < least) where
  exposed_group : (n : ℕ) (i : Instr) → least ≤ n → list_any (exposes v) (with_save c n i) ≡ exposes v i
  exposed_group n i le = on (is_bare c i) refl
    where
      alone : (a : Bool) → (a || false) ≡ a
      alone true = refl
      alone false = refl

      on : (b : Bool) → is_bare c i ≡ b → list_any (exposes v) (if b then save_call n ∷ saved n i ∷ [] else i ∷ []) ≡ exposes v i
      on true e = alone (exposes v (saved n i)) ∙ saved_exposes c i e v n (omega arith)
      on false e = alone (exposes v i)

  each_unit : (is : List Instr) → Each (λ (i : Instr). Unit {0}) is
  each_unit [] = tt
  each_unit (i ∷ is) = (tt, each_unit is)

  exposed_one : (n : ℕ) (b : Block) → least ≤ n → exposed_in_block v (saved_block c n b) ≡ exposed_in_block v b
  exposed_one n b le =
      ap (λ (t : Bool). list_any (occurs_in_phi v) b.phis || t || occurs_in_term v b.term)
      (any_saved c (exposes v) (exposes v) least (λ i. Unit {0}) (λ k i more p. exposed_group k i more) b.instrs (each_unit b.instrs) n le)

  more_saves : (n : ℕ) (is : List Instr) → least ≤ n → least ≤ behind_saves c n is
  more_saves n [] le = le
  more_saves n (i ∷ is) le = more_saves (behind_save c n i) is (on (is_bare c i))
    where
      on : (b : Bool) → least ≤ (if b then n + 1 else n)
      on true = omega arith
      on false = le

  pub exposed_anywhere : (n : ℕ) (bs : List Block) → least ≤ n → list_any (exposed_in_block v) (saved_blocks c n bs) ≡ list_any (exposed_in_block v) bs
  exposed_anywhere n [] le = refl
  exposed_anywhere n (b ∷ bs) le =
      let first = exposed_one n b le in
      let rest = exposed_anywhere (behind_saves c n b.instrs) bs (more_saves n b.instrs le) in
      λ i. first i || rest i

module _ (f : Function) (named : HasNamedTokens f) where
  abbrev g : Function
  g = saved_function f

  abbrev names : ℕ
  names = length f.names

  abbrev pub IsName : ℕ → Type 0
  IsName v = v < names

  abbrev front : Point → Point
  front p = front_of f p

  abbrev back : Point → Point
  back p = back_of f p

  abbrev number : ℕ → ℕ
  number b = number_of_block f.coroutine b names f.blocks

  abbrev instrs : ℕ → List Instr
  instrs b = instrs_in (slice_get f.blocks b)

  abbrev here : Point → Option Instr
  here p = slice_get (instrs p.block) p.at

  abbrev name_of : Point → ℕ
  name_of p = name_at f.coroutine p.at (number p.block) (instrs p.block)

  later : (p : Point) → names ≤ name_of p
  later p =
      let one = more_block f.coroutine p.block names f.blocks in
      let two = more_name f.coroutine p.at (number p.block) (instrs p.block) in
      omega (arith, one, two)

  at_here : (p : Point) → instr_at f p ≡ here p
  at_here p = instr_at_is (slice_get f.blocks p.block) p.at

  -- ---- a point is one, or a bare suspend's

  record IsBareAt (p : Point) : Type 0 where
    instr : Instr
    is : here p ≡ Some instr
    bare : is_bare f.coroutine instr ≡ true

  lone_or_bare : (p : Point) → (front p ≡ back p) ⊎ IsBareAt p
  lone_or_bare p = on (here p) refl
    where
      same : own_saves f.coroutine (here p) ≡ 0 → front p ≡ back p
      same z = sym (ap (λ (k : ℕ). record { block = p.block; at = (front p).at + k }) z ∙ ap (λ (k : ℕ). record { block = p.block; at = k }) (add-zero (front p).at))

      by_instr : (i : Instr) → here p ≡ Some i → (b : Bool) → is_bare f.coroutine i ≡ b → (front p ≡ back p) ⊎ IsBareAt p
      by_instr i e true b = inr (record { instr = i; is = e; bare = b })
      by_instr i e false b = inl (same (ap (own_saves f.coroutine) e ∙ ap (λ (t : Bool). if t then 1 else 0) b))

      on : (o : Option Instr) → here p ≡ o → (front p ≡ back p) ⊎ IsBareAt p
      on None e = inl (same (ap (own_saves f.coroutine) e))
      on (Some i) e = by_instr i e (is_bare f.coroutine i) refl

  -- what stands at a point of g is of a point of f
  of_point : (x : Point) (j : Instr) → instr_at g x ≡ Some j → (p : Point) × IsOf front back p x
  of_point x j e =
      let stands : slice_get (with_saves f.coroutine (number x.block) (instrs x.block)) x.at ≡ Some j =
      sym (ap (λ (is : List Instr). slice_get is x.at) (instrs_saved f.coroutine x.block names f.blocks)) ∙ sym (instr_at_is (slice_get g.blocks x.block) x.at) ∙ e in
      let from = each_from f.coroutine (number x.block) (instrs x.block) x.at j stands in
      (record { block = x.block; at = from.at }, on from.at from.is_at)
    where
      on : (at : ℕ) → (x.at ≡ place_in f.coroutine at (number x.block) (instrs x.block)) ⊎ (x.at ≡ place_in f.coroutine at (number x.block) (instrs x.block) + own_saves f.coroutine (slice_get (instrs x.block) at)) → IsOf front back (record { block = x.block; at = at }) x
      on at (inl s) = inl (λ k. record { block = x.block; at = s k })
      on at (inr s) = inr (λ k. record { block = x.block; at = s k })

  -- ---- tests that no save and no bare suspend passes

  record IsLoneTest (t : Instr → Bool) : Type 0 where
    saves : (n : ℕ) → t (save_call n) ≡ false
    bares : (i : Instr) → is_bare f.coroutine i ≡ true → t i ≡ false
    saveds : (n : ℕ) (i : Instr) → is_bare f.coroutine i ≡ true → t (saved n i) ≡ false

  lone_where : (t : Instr → Bool) → IsLoneTest t → AreLone front back (points_where t f) (points_where t g)
  lone_where t lone = record {
    carried = record { fronts = at_front; backs = at_backs };
    clear = clear;
    found = found;
  }
    where
      then_same : (p : Point) (o : Option Instr) → passes t (instr_then f.coroutine p.at (number p.block) (instrs p.block) o) ≡ passes t o
      then_same p None = refl
      then_same p (Some i) = on (is_bare f.coroutine i) refl
        where
          on : (b : Bool) → is_bare f.coroutine i ≡ b → t (if b then saved (name_of p) i else i) ≡ t i
          on true e = lone.saveds (name_of p) i e ∙ sym (lone.bares i e)
          on false e = refl

      own : (p : Point) → has_point (points_where t f) p ≡ passes t (here p)
      own p = where_is t f p ∙ ap (passes t) (at_here p)

      at_backs : (p : Point) → has_point (points_where t g) (back p) ≡ has_point (points_where t f) p
      at_backs p = where_is t g (back p) ∙ ap (passes t) (at_back f p) ∙ then_same p (here p) ∙ sym (own p)

      bare_not : (p : Point) → IsBareAt p → has_point (points_where t f) p ≡ false
      bare_not p b = own p ∙ ap (passes t) b.is ∙ lone.bares b.instr b.bare

      at_front : (p : Point) → has_point (points_where t g) (front p) ≡ has_point (points_where t f) p
      at_front p = on (lone_or_bare p)
        where
          on : (front p ≡ back p) ⊎ IsBareAt p → has_point (points_where t g) (front p) ≡ has_point (points_where t f) p
          on (inl e) = ap (has_point (points_where t g)) e ∙ at_backs p
          on (inr b) = where_is t g (front p) ∙ ap (passes t) (front_bare f named p b.instr b.is b.bare) ∙ lone.saves (name_of p) ∙ sym (bare_not p b)

      clear : (q : Point) → (front q ≡ back q) ⊎ (has_point (points_where t f) q ≡ false)
      clear q = on (lone_or_bare q)
        where
          on : (front q ≡ back q) ⊎ IsBareAt q → (front q ≡ back q) ⊎ (has_point (points_where t f) q ≡ false)
          on (inl e) = inl e
          on (inr b) = inr (bare_not q b)

      found : (x : Point) → Has (points_where t g) x → (p : Point) × (x ≡ back p)
      found x h = at (passed t g x h)
        where
          on : (i : IsPassed t g x) (p : Point) → IsOf front back p x → (q : Point) × (x ≡ back q)
          on i p (inr e) = (p, e)
          on i p (inl e) = by (lone_or_bare p)
            where
              by : (front p ≡ back p) ⊎ IsBareAt p → (q : Point) × (x ≡ back q)
              by (inl s) = (p, e ∙ s)
              by (inr b) =
                  let stands : Some i.instr ≡ Some (save_call (name_of p)) = sym i.is ∙ ap (instr_at g) e ∙ front_bare f named p b.instr b.is b.bare in
                  let same : i.instr ≡ save_call (name_of p) = cc in
                  let never : true ≡ false = sym i.passes_it ∙ ap t same ∙ lone.saves (name_of p) in
                  absurd (cc)

          at : IsPassed t g x → (q : Point) × (x ≡ back q)
          at i = let from = of_point x i.instr i.is in on i from.0 from.1

  begin_test : IsLoneTest (is_call_of Intrinsic.CoroBegin)
  begin_test = record {
    saves = λ n. refl;
    bares = λ i b. let is = bare_is f.coroutine i b in ap (is_call_of Intrinsic.CoroBegin) is.is;
    saveds = λ n i b. let is = bare_is f.coroutine i b in ap (λ (x : Instr). is_call_of Intrinsic.CoroBegin (saved n x)) is.is;
  }

  end_test : IsLoneTest (is_call_of Intrinsic.CoroEnd)
  end_test = record {
    saves = λ n. refl;
    bares = λ i b. let is = bare_is f.coroutine i b in ap (is_call_of Intrinsic.CoroEnd) is.is;
    saveds = λ n i b. let is = bare_is f.coroutine i b in ap (λ (x : Instr). is_call_of Intrinsic.CoroEnd (saved n x)) is.is;
  }

  start_test : (slot : ℕ) → IsLoneTest (is_marker_of Intrinsic.LifetimeStart slot)
  start_test slot = record {
    saves = λ n. refl;
    bares = λ i b. let is = bare_is f.coroutine i b in ap (is_marker_of Intrinsic.LifetimeStart slot) is.is;
    saveds = λ n i b. let is = bare_is f.coroutine i b in ap (λ (x : Instr). is_marker_of Intrinsic.LifetimeStart slot (saved n x)) is.is;
  }

  stop_test : (slot : ℕ) → IsLoneTest (is_marker_of Intrinsic.LifetimeEnd slot)
  stop_test slot = record {
    saves = λ n. refl;
    bares = λ i b. let is = bare_is f.coroutine i b in ap (is_marker_of Intrinsic.LifetimeEnd slot) is.is;
    saveds = λ n i b. let is = bare_is f.coroutine i b in ap (λ (x : Instr). is_marker_of Intrinsic.LifetimeEnd slot (saved n x)) is.is;
  }

  -- ---- points of the function

  back_place : (p : Point) (b : Block) → slice_get f.blocks p.block ≡ Some b → (back p).at ≡ place_in f.coroutine p.at (number p.block) b.instrs + own_saves f.coroutine (slice_get b.instrs p.at)
  back_place p b e = ap (λ (o : Option Block). place_in f.coroutine p.at (number p.block) (instrs_in o) + own_saves f.coroutine (slice_get (instrs_in o) p.at)) e

  front_place : (p : Point) (b : Block) → slice_get f.blocks p.block ≡ Some b → (front p).at ≡ place_in f.coroutine p.at (number p.block) b.instrs
  front_place p b e = ap (λ (o : Option Block). place_in f.coroutine p.at (number p.block) (instrs_in o)) e

  block_there : (p : Point) (b : Block) → slice_get f.blocks p.block ≡ Some b → slice_get g.blocks p.block ≡ Some (saved_block f.coroutine (number p.block) b)
  block_there p b e = get_block f.coroutine p.block names f.blocks ∙ ap (option_map (saved_block f.coroutine (number p.block))) e

  points_forth : (p : Point) → IsPointOf f p → IsPointOf g (back p)
  points_forth p h = record { block = saved_block f.coroutine (number p.block) h.block; is_block = block_there p h.block h.is_block; within = within }
    where
      within : (back p).at ≤ length (with_saves f.coroutine (number p.block) h.block.instrs)
      within =
          let place = back_place p h.block h.is_block in
          let most = h.within in
          ⊎_elim
          (λ (lt : p.at < length h.block.instrs). let near = back_inside f.coroutine p.at (number p.block) h.block.instrs lt in omega (arith, place, near))
          (λ (ge : length h.block.instrs ≤ p.at). let near = back_end f.coroutine p.at (number p.block) h.block.instrs (omega (arith, most)) in omega (arith, place, near))
          (cases_lt p.at (length h.block.instrs))

  points_back : (p x : Point) → IsOf front back p x → IsPointOf g x → IsPointOf f p
  points_back p x at h = on (slice_get f.blocks p.block) refl
    where
      block_is : IsOf front back p x → x.block ≡ p.block
      block_is (inl e) = ap (λ (y : Point). y.block) e
      block_is (inr e) = ap (λ (y : Point). y.block) e

      above : IsOf front back p x → (front p).at ≤ x.at
      above (inl e) = let s = ap (λ (y : Point). y.at) e in omega (arith, s)
      above (inr e) = let s = ap (λ (y : Point). y.at) e in omega (arith, s)

      there : slice_get g.blocks p.block ≡ Some h.block
      there = ap (slice_get g.blocks) (sym (block_is at)) ∙ h.is_block

      on : (o : Option Block) → slice_get f.blocks p.block ≡ o → IsPointOf f p
      on None e = let none : None ≡ Some h.block = sym (get_block f.coroutine p.block names f.blocks ∙ ap (option_map (saved_block f.coroutine (number p.block))) e) ∙ there in absurd (cc)
      on (Some b) e =
          let both : Some (saved_block f.coroutine (number p.block) b) ≡ Some h.block = sym (block_there p b e) ∙ there in
          let same : saved_block f.coroutine (number p.block) b ≡ h.block = cc in
          let long : length (with_saves f.coroutine (number p.block) b.instrs) ≡ length h.block.instrs = ap (λ (y : Block). length y.instrs) same in
          let most = h.within in
          let up = above at in
          let place = front_place p b e in
          record {
            block = b;
            is_block = e;
            within = ⊎_elim
                (λ (lt : length b.instrs < p.at). let far = place_far (with_save f.coroutine) (behind_save f.coroutine) p.at (number p.block) b.instrs lt in absurd (omega (arith, far, most, up, place, long)))
                (λ (le : p.at ≤ length b.instrs). le)
                (cases_lt (length b.instrs) p.at);
          }

  last_back : (b : ℕ) → end_at g b ≡ back (end_at f b)
  last_back b = on (slice_get f.blocks b) refl
    where
      on : (o : Option Block) → slice_get f.blocks b ≡ o → end_at g b ≡ back (end_at f b)
      on None e =
          let count : instr_count (slice_get g.blocks b) ≡ 0 = ap instr_count (get_block f.coroutine b names f.blocks ∙ ap (option_map (saved_block f.coroutine (number b))) e) in
          let own : place_in f.coroutine (instr_count (slice_get f.blocks b)) (number b) (instrs b) + own_saves f.coroutine (slice_get (instrs b) (instr_count (slice_get f.blocks b))) ≡ 0 =
          ap (λ (o : Option Block). place_in f.coroutine (instr_count o) (number b) (instrs_in o) + own_saves f.coroutine (slice_get (instrs_in o) (instr_count o))) e in
          λ k. record { block = b; at = (count ∙ sym own) k }
      on (Some x) e =
          let count : instr_count (slice_get g.blocks b) ≡ length (with_saves f.coroutine (number b) x.instrs) = ap instr_count (get_block f.coroutine b names f.blocks ∙ ap (option_map (saved_block f.coroutine (number b))) e) in
          let own : place_in f.coroutine (instr_count (slice_get f.blocks b)) (number b) (instrs b) + own_saves f.coroutine (slice_get (instrs b) (instr_count (slice_get f.blocks b))) ≡ length (with_saves f.coroutine (number b) x.instrs) =
          ap (λ (o : Option Block). place_in f.coroutine (instr_count o) (number b) (instrs_in o) + own_saves f.coroutine (slice_get (instrs_in o) (instr_count o))) e
          ∙ back_end f.coroutine (length x.instrs) (number b) x.instrs refl in
          λ k. record { block = b; at = (count ∙ sym own) k }

  label_same : (n : ℕ) (s : Point) → label_at n (slice_get g.blocks s.block) ≡ label_at n (slice_get f.blocks s.block)
  label_same n s = ap (label_at n) (get_block f.coroutine s.block names f.blocks) ∙ on (slice_get f.blocks s.block)
    where
      on : (o : Option Block) → label_at n (option_map (saved_block f.coroutine (number s.block)) o) ≡ label_at n o
      on None = refl
      on (Some x) = refl

  -- ---- uses

  uses_forth : (v : ℕ) (p : Point) → v < names → UsesAt f v p → UsesAt g v (back p)
  uses_forth v p lt (ByInstr i e n o) = on (is_bare f.coroutine i) refl
    where
      stands : instr_at g (back p) ≡ Some (if is_bare f.coroutine i then saved (name_of p) i else i)
      stands = at_back f p ∙ ap (instr_then f.coroutine p.at (number p.block) (instrs p.block)) (sym (at_here p) ∙ e)

      on : (b : Bool) → is_bare f.coroutine i ≡ b → UsesAt g v (back p)
      on true d =
          let more = later p in
          ByInstr (saved (name_of p) i) (stands ∙ ap (λ (t : Bool). Some (if t then saved (name_of p) i else i)) d) (saved_used f.coroutine i d (name_of p) ∙ n) (saved_occurs f.coroutine i d v (name_of p) (omega (arith, lt, more)) ∙ o)
      on false d = ByInstr i (stands ∙ ap (λ (t : Bool). Some (if t then saved (name_of p) i else i)) d) n o
  uses_forth v p lt (ByTerm b e at o) =
      ByTerm (saved_block f.coroutine (number p.block) b) (block_there p b e) (back_place p b e ∙ back_end f.coroutine p.at (number p.block) b.instrs at) o

  uses_home : (v : ℕ) (p : Point) → v < names → UsesAt g v (back p) → UsesAt f v p
  uses_home v p lt (ByInstr j e n o) = on (here p) refl (sym (at_back f p) ∙ e)
    where
      by_instr : (i : Instr) → here p ≡ Some i → (b : Bool) → is_bare f.coroutine i ≡ b → (if b then saved (name_of p) i else i) ≡ j → UsesAt f v p
      by_instr i d true t s =
          let more = later p in
          ByInstr i (at_here p ∙ d) (sym (saved_used f.coroutine i t (name_of p)) ∙ ap is_no_use_in s ∙ n) (sym (saved_occurs f.coroutine i t v (name_of p) (omega (arith, lt, more))) ∙ ap (occurs v) s ∙ o)
      by_instr i d false t s = ByInstr i (at_here p ∙ d) (ap is_no_use_in s ∙ n) (ap (occurs v) s ∙ o)

      on : (x : Option Instr) → here p ≡ x → instr_then f.coroutine p.at (number p.block) (instrs p.block) (here p) ≡ Some j → UsesAt f v p
      on None d s = let none = sym (ap (instr_then f.coroutine p.at (number p.block) (instrs p.block)) d) ∙ s in absurd (cc)
      on (Some i) d s =
          let both : Some (if is_bare f.coroutine i then saved (name_of p) i else i) ≡ Some j = sym (ap (instr_then f.coroutine p.at (number p.block) (instrs p.block)) d) ∙ s in
          by_instr i d (is_bare f.coroutine i) refl (let same : (if is_bare f.coroutine i then saved (name_of p) i else i) ≡ j = cc in same)
  uses_home v p lt (ByTerm b e at o) = on (slice_get f.blocks p.block) refl
    where
      on : (x : Option Block) → slice_get f.blocks p.block ≡ x → UsesAt f v p
      on None d = let none : None ≡ Some b = sym (get_block f.coroutine p.block names f.blocks ∙ ap (option_map (saved_block f.coroutine (number p.block))) d) ∙ e in absurd (cc)
      on (Some y) d =
          let both : Some (saved_block f.coroutine (number p.block) y) ≡ Some b = sym (block_there p y d) ∙ e in
          let same : saved_block f.coroutine (number p.block) y ≡ b = cc in
          let long : length (with_saves f.coroutine (number p.block) y.instrs) ≡ length b.instrs = ap (λ (z : Block). length z.instrs) same in
          let place = back_place p y d in
          ByTerm y d
          (⊎_elim
          (λ (less : p.at < length y.instrs). let inside = back_inside f.coroutine p.at (number p.block) y.instrs less in absurd (omega (arith, inside, place, at, long)))
          (λ (ge : length y.instrs ≤ p.at). ⊎_elim
          (λ (more : length y.instrs < p.at). let past = back_past f.coroutine p.at (number p.block) y.instrs more in absurd (omega (arith, past, place, at, long)))
          (λ (le : p.at ≤ length y.instrs). let s : p.at ≡ length y.instrs = omega (arith, ge, le) in s)
          (cases_lt (length y.instrs) p.at))
          (cases_lt p.at (length y.instrs)))
          (ap (λ (z : Block). occurs_in_term v z.term) same ∙ o)

  use_found : (v : ℕ) (x : Point) → v < names → UsesAt g v x → (p : Point) × (x ≡ back p)
  use_found v x lt (ByInstr j e n o) = let from = of_point x j e in on from.0 from.1
    where
      on : (p : Point) → IsOf front back p x → (q : Point) × (x ≡ back q)
      on p (inr s) = (p, s)
      on p (inl s) = by (lone_or_bare p)
        where
          by : (front p ≡ back p) ⊎ IsBareAt p → (q : Point) × (x ≡ back q)
          by (inl t) = (p, s ∙ t)
          by (inr b) =
              let both : Some j ≡ Some (save_call (name_of p)) = sym e ∙ ap (instr_at g) s ∙ front_bare f named p b.instr b.is b.bare in
              let same : j ≡ save_call (name_of p) = cc in
              let never : true ≡ false = sym o ∙ ap (occurs v) same in
              absurd (cc)
  use_found v x lt (ByTerm b e at o) = on (slice_get f.blocks x.block) refl
    where
      on : (y : Option Block) → slice_get f.blocks x.block ≡ y → (q : Point) × (x ≡ back q)
      on None d = let none : None ≡ Some b = sym (get_block f.coroutine x.block names f.blocks ∙ ap (option_map (saved_block f.coroutine (number x.block))) d) ∙ e in absurd (cc)
      on (Some y) d =
          let both : Some (saved_block f.coroutine (number x.block) y) ≡ Some b = sym (block_there x y d) ∙ e in
          let same : saved_block f.coroutine (number x.block) y ≡ b = cc in
          let long : length (with_saves f.coroutine (number x.block) y.instrs) ≡ length b.instrs = ap (λ (z : Block). length z.instrs) same in
          let place = back_place (record { block = x.block; at = length y.instrs }) y d ∙ back_end f.coroutine (length y.instrs) (number x.block) y.instrs refl in
          (record { block = x.block; at = length y.instrs }, λ k. record { block = x.block; at = (at ∙ sym long ∙ sym place) k })

  -- ---- phis

  phis_same : (b : ℕ) → phis_at g b ≡ phis_at f b
  phis_same b = ap phis_in (get_block f.coroutine b names f.blocks) ∙ on (slice_get f.blocks b)
    where
      on : (o : Option Block) → phis_in (option_map (saved_block f.coroutine (number b)) o) ≡ phis_in o
      on None = refl
      on (Some x) = refl

  takes_forth : (v from to : ℕ) → TakesFrom f v from to → TakesFrom g v from to
  takes_forth v from to t = record { phi = t.phi; incoming = t.incoming; stands = subst (IsListed t.phi) (sym (phis_same to)) t.stands; comes = t.comes; is_from = position_saved f t.incoming.from ∙ t.is_from; takes = t.takes }

  takes_home : (v from to : ℕ) → TakesFrom g v from to → TakesFrom f v from to
  takes_home v from to t = record { phi = t.phi; incoming = t.incoming; stands = subst (IsListed t.phi) (phis_same to) t.stands; comes = t.comes; is_from = sym (position_saved f t.incoming.from) ∙ t.is_from; takes = t.takes }

  -- ---- windows

  save_lone : (k : Point) → Has (points_where (is_call_of Intrinsic.CoroSave) f) k → front k ≡ back k
  save_lone k h = on (lone_or_bare k)
    where
      on : (front k ≡ back k) ⊎ IsBareAt k → front k ≡ back k
      on (inl e) = e
      on (inr b) =
          let never : true ≡ false = sym h ∙ where_is (is_call_of Intrinsic.CoroSave) f k ∙ ap (passes (is_call_of Intrinsic.CoroSave)) (at_here k ∙ b.is) ∙ bare_no_save f.coroutine b.instr b.bare in
          absurd (cc)

  suspend_is_lone : (k s : Point) → suspend_of f k ≡ Some s → front s ≡ back s
  suspend_is_lone k s e = on (lone_or_bare s)
    where
      r : Option ℕ
      r = option_and_then call_result (instr_at f k)

      on : (front s ≡ back s) ⊎ IsBareAt s → front s ≡ back s
      on (inl d) = d
      on (inr b) =
          let never : true ≡ false = sym (first_has (points_where (is_suspend_of (option_and_then call_result (instr_at f k))) f) s e) ∙ where_is (is_suspend_of (option_and_then call_result (instr_at f k))) f s ∙ ap (passes (is_suspend_of (option_and_then call_result (instr_at f k)))) (at_here s ∙ b.is) ∙ bare_no_suspend f.coroutine b.instr b.bare (option_and_then call_result (instr_at f k)) in
          absurd (cc)

  not_bare : (k : Point) (i : Instr) → here k ≡ Some i → is_call_of Intrinsic.CoroSave i ≡ true → is_bare f.coroutine i ≡ false
  not_bare k i e h = on (is_bare f.coroutine i) refl
    where
      on : (b : Bool) → is_bare f.coroutine i ≡ b → is_bare f.coroutine i ≡ false
      on true d = let never : true ≡ false = sym h ∙ bare_no_save f.coroutine i d in absurd (cc)
      on false d = d

  -- the suspend of a save of the function's own
  own_suspend : (k : Point) (i : Instr) → here k ≡ Some i → is_call_of Intrinsic.CoroSave i ≡ true → front k ≡ back k → suspend_of g (back k) ≡ option_map back (suspend_of f k)
  own_suspend k i e h lone =
      ap (suspend_of g) (sym lone)
      ∙ suspend_lone f named k i e (not_bare k i e h) (each_here (HasNamedToken names) f.blocks named k i e).result

  own_save : (k : Point) (i : Instr) → here k ≡ Some i → is_call_of Intrinsic.CoroSave i ≡ true → instr_at g (back k) ≡ Some i
  own_save k i e h =
      at_back f k ∙ ap (instr_then f.coroutine k.at (number k.block) (instrs k.block)) e
      ∙ ap (λ (t : Bool). Some (if t then saved (name_of k) i else i)) (not_bare k i e h)

  windows_forth : (p : Point) → IsInSomeWindow f p → IsInSomeWindow g (back p)
  windows_forth p h = on (in_some f p h)
    where
      on : IsIn f p → IsInSomeWindow g (back p)
      on w =
          let i = passed (is_call_of Intrinsic.CoroSave) f w.save w.is_save in
          let e = sym (at_here w.save) ∙ i.is in
          let lone = save_lone w.save w.is_save in
          some_in g (back p) (record {
            save = back w.save;
            is_save = where_is (is_call_of Intrinsic.CoroSave) g (back w.save) ∙ ap (passes (is_call_of Intrinsic.CoroSave)) (own_save w.save i.instr e i.passes_it) ∙ i.passes_it;
            suspend = back w.suspend;
            suspend_is = own_suspend w.save i.instr e i.passes_it lone ∙ ap (option_map back) w.suspend_is;
            inside = window_forth f g front back (strands f) w.save w.suspend lone (suspend_is_lone w.save w.suspend w.suspend_is) p w.inside;
          })

  -- no point is in the window of a written save
  none_between : (p y : Point) → IsBareAt p → IsInWindow g (front p) (back p) y → ⊥
  none_between p y b w = on w.from_save.between w.from_save.is_path
    where
      alone : (z : Point) → Has (back p ∷ []) z → z ≡ back p
      alone z h = by (Rattle.rule_laws.proofs.ir_paths.Search.either (same_point z (back p)) false h)
        where
          by : (same_point z (back p) ≡ true) ⊎ (false ≡ true) → z ≡ back p
          by (inl e) = Rattle.rule_laws.proofs.ir_paths.Search.same_point-same z (back p) e
          by (inr e) = absurd (cc)

      only : (z : Point) → Has (Rattle.rule_laws.specs.ir_paths.Paths.nexts g (front p)) z → z ≡ back p
      only z h = alone z (ap (λ (ps : List Point). has_point ps z) (sym (save_leads f p b.instr b.is b.bare)) ∙ h)

      on : (between : List Point) → IsPath g (front p ∷ back p ∷ []) (front p) between y → ⊥
      on [] h = let t : same_point y (back p) ≡ true = ap (λ (z : Point). same_point z (back p)) (only y h) ∙ same_point-itself (back p) in let no = sym t ∙ w.is_not_suspend in cc
      on (v ∷ between) h =
          let t : has_point (front p ∷ back p ∷ []) v ≡ true = or_right (same_point v (front p)) (has_point (back p ∷ []) v) (or_left (same_point v (back p)) false (ap (λ (z : Point). same_point z (back p)) (only v h.0) ∙ same_point-itself (back p))) in
          let no = sym t ∙ h.1 in
          cc

  windows_home : (p : Point) → IsInSomeWindow g (back p) → IsInSomeWindow f p
  windows_home p h = on (in_some g (back p) h)
    where
      of_suspend : (o : Option Point) (x : Point) → option_map back o ≡ Some x → (s : Point) × ((o ≡ Some s) × (x ≡ back s))
      of_suspend None x e = absurd (cc)
      of_suspend (Some s) x e = let same : x ≡ back s = cc in (s, (refl, same))

      -- a save of the function's own
      own : (w : IsIn g (back p)) (k : Point) → w.save ≡ back k → (i : Instr) → here k ≡ Some i → is_call_of Intrinsic.CoroSave i ≡ true → front k ≡ back k → IsInSomeWindow f p
      own w k at i e c lone =
          let from = of_suspend (suspend_of f k) w.suspend (sym (own_suspend k i e c lone) ∙ ap (suspend_of g) (sym at) ∙ w.suspend_is) in
          some_in f p (record {
            save = k;
            is_save = where_is (is_call_of Intrinsic.CoroSave) f k ∙ ap (passes (is_call_of Intrinsic.CoroSave)) (at_here k ∙ e) ∙ c;
            suspend = from.0;
            suspend_is = from.1.0;
            inside = window_home f g front back (strands f) k from.0 lone (suspend_is_lone k from.0 from.1.0) p
                (subst (λ (x : Point). IsInWindow g (back k) x (back p)) from.1.1 (subst (λ (x : Point). IsInWindow g x w.suspend (back p)) at w.inside));
          })

      at_lone : (w : IsIn g (back p)) (i : IsPassed (is_call_of Intrinsic.CoroSave) g w.save) (k : Point) → w.save ≡ back k → front k ≡ back k → IsInSomeWindow f p
      at_lone w i k at lone = by (here k) refl (sym (at_back f k) ∙ ap (instr_at g) (sym at) ∙ i.is)
        where
          by_instr : (x : Instr) → here k ≡ Some x → (b : Bool) → is_bare f.coroutine x ≡ b → (if b then saved (name_of k) x else x) ≡ i.instr → IsInSomeWindow f p
          by_instr x e true b s = let never : true ≡ false = sym i.passes_it ∙ ap (is_call_of Intrinsic.CoroSave) (sym s) ∙ saved_no_save f.coroutine x b (name_of k) in absurd (cc)
          by_instr x e false b s = own w k at x e (ap (is_call_of Intrinsic.CoroSave) s ∙ i.passes_it) lone

          by : (o : Option Instr) → here k ≡ o → instr_then f.coroutine k.at (number k.block) (instrs k.block) (here k) ≡ Some i.instr → IsInSomeWindow f p
          by None e s = let none = sym (ap (instr_then f.coroutine k.at (number k.block) (instrs k.block)) e) ∙ s in absurd (cc)
          by (Some x) e s =
              let both : Some (if is_bare f.coroutine x then saved (name_of k) x else x) ≡ Some i.instr = sym (ap (instr_then f.coroutine k.at (number k.block) (instrs k.block)) e) ∙ s in
              by_instr x e (is_bare f.coroutine x) refl (let same : (if is_bare f.coroutine x then saved (name_of k) x else x) ≡ i.instr = cc in same)

      at_bare : (w : IsIn g (back p)) (i : IsPassed (is_call_of Intrinsic.CoroSave) g w.save) (k : Point) → IsOf front back k w.save → IsBareAt k → IsInSomeWindow f p
      at_bare w i k (inl e) b =
          let both : Some (back k) ≡ Some w.suspend = sym (suspend_bare f named k b.instr b.is b.bare) ∙ ap (suspend_of g) (sym e) ∙ w.suspend_is in
          let same : w.suspend ≡ back k = cc in
          absurd (none_between k (back p) b (subst (λ (x : Point). IsInWindow g (front k) x (back p)) same (subst (λ (x : Point). IsInWindow g x w.suspend (back p)) e w.inside)))
      at_bare w i k (inr e) b =
          let both : Some (saved (name_of k) b.instr) ≡ Some i.instr =
          sym (at_back f k ∙ ap (instr_then f.coroutine k.at (number k.block) (instrs k.block)) b.is ∙ ap (λ (t : Bool). Some (if t then saved (name_of k) b.instr else b.instr)) b.bare) ∙ ap (instr_at g) (sym e) ∙ i.is in
          let same : saved (name_of k) b.instr ≡ i.instr = cc in
          let never : true ≡ false = sym i.passes_it ∙ ap (is_call_of Intrinsic.CoroSave) (sym same) ∙ saved_no_save f.coroutine b.instr b.bare (name_of k) in
          absurd (cc)

      at_point : (w : IsIn g (back p)) (i : IsPassed (is_call_of Intrinsic.CoroSave) g w.save) (k : Point) → IsOf front back k w.save → (front k ≡ back k) ⊎ IsBareAt k → IsInSomeWindow f p
      at_point w i k at (inr b) = at_bare w i k at b
      at_point w i k (inl e) (inl lone) = at_lone w i k (e ∙ lone) lone
      at_point w i k (inr e) (inl lone) = at_lone w i k e lone

      on : IsIn g (back p) → IsInSomeWindow f p
      on w =
          let i = passed (is_call_of Intrinsic.CoroSave) g w.save w.is_save in
          let from = of_point w.save i.instr i.is in
          at_point w i from.0 from.1 (lone_or_bare from.0)

  -- ---- all together

  slot_named : (i : Instr) → HasNamedToken names i → HoldsSlot IsName i
  slot_named (Instr.Alloca name ty align) h = h.address
  slot_named (Instr.Gep name inbounds ty base indices) h = h.address
  slot_named _ h = tt

  slots_named : Each (λ (b : Block). Each (HoldsSlot IsName) b.instrs) f.blocks
  slots_named = blocks f.blocks named
    where
      one : (is : List Instr) → Each (HasNamedToken names) is → Each (HoldsSlot IsName) is
      one [] h = tt
      one (i ∷ is) h = (slot_named i h.0, one is h.1)

      blocks : (bs : List Block) → Each (λ (b : Block). Each (HasNamedToken names) b.instrs) bs → Each (λ (b : Block). Each (HoldsSlot IsName) b.instrs) bs
      blocks [] h = tt
      blocks (b ∷ bs) h = (one b.instrs h.0, blocks bs h.1)

  escaped_same : (a : ℕ) → a < names → is_escaped g a ≡ is_escaped f a
  escaped_same a lt =
      ap (λ (vs : List ℕ). list_any (λ v. list_any (exposed_in_block v) (saved_function f).blocks) vs) (same_addresses f named a)
      ∙ any_same IsName (λ v. list_any (exposed_in_block v) (saved_function f).blocks) (λ v. list_any (exposed_in_block v) f.blocks)
      (λ v h. exposed_anywhere f.coroutine v names h names f.blocks (omega arith)) (addresses_of f a) (addresses_hold IsName f slots_named a lt)

  ramp_forth : (k a : ℕ) → slice_get (allocas_of f) k ≡ Some a → IsRampSlot f a → IsRampSlot g a
  ramp_forth k a e r =
      let there = name_there (allocas_of f) k a e in
      (((facts_of_right g).ramp_slots a).0 (same_ramp_slots f named a ∙ ((facts_of_right f).ramp_slots a).1 (there, r))).1

  ramp_home : (k a : ℕ) → slice_get (allocas_of f) k ≡ Some a → IsRampSlot g a → IsRampSlot f a
  ramp_home k a e r =
      let there = name_there (allocas_of f) k a e in
      (((facts_of_right f).ramp_slots a).0 (sym (same_ramp_slots f named a) ∙ ((facts_of_right g).ramp_slots a).1 (ap (λ (vs : List ℕ). has_name vs a) (same_allocas f named) ∙ there, r))).1

  pub saved_slots_alike : AreSlotsAlike f g front back IsName
  saved_slots_alike = record {
    strands = strands f;
    front_block = λ p. refl;
    back_block = λ p. refl;
    first = λ b. refl;
    position = position_saved f;
    blocks = length_blocks f.coroutine names f.blocks;
    points = points_forth;
    points_home = points_back;
    last = last_back;
    end = end_saved f;
    end_carried = record { fronts = front_ending f; backs = back_ending f };
    begins_lone = lone_where (is_call_of Intrinsic.CoroBegin) begin_test;
    ends_lone = lone_where (is_call_of Intrinsic.CoroEnd) end_test;
    suspends_moved = suspends_moved f;
    starts_lone = λ slot lt. lone_where (is_marker_of Intrinsic.LifetimeStart slot) (start_test slot);
    stops_lone = λ slot lt. lone_where (is_marker_of Intrinsic.LifetimeEnd slot) (stop_test slot);
    resumes = label_same 0;
    destroys = label_same 1;
    windows = λ p. (windows_forth p, windows_home p);
    allocas = same_allocas f named;
    alloca_names = alloca_holds IsName f slots_named;
    addresses = λ a lt. same_addresses f named a;
    address_names = λ a v lt e. address_holds IsName f slots_named a v lt e;
    escaped = escaped_same;
    promise = λ a lt. ap (λ (o : Option ℕ). has_name (option_to_list o) a) (same_promise f named);
    ramp = λ k a e. (ramp_forth k a e, ramp_home k a e);
    uses = λ v p lt. (uses_forth v p lt, uses_home v p lt);
    use_found = use_found;
    takes = λ v from to lt. (takes_forth v from to, takes_home v from to);
  }

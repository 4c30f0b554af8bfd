-- The allocas of a framed form stand in front of its entry, in order.
use Rattle.std.proofs.Common.{◌≡◌, ◌+◌, ◌≤◌, ◌∷◌, ◌++◌, ◌∙◌, [], if◌then◌else◌, Bool, List, None, Option, Some, ap, append-nil, append_assoc, arith, drop, false, length, refl, suc, sym, take, true, zero, ℕ}
use Rattle.std.proofs.lemmas.List.Elements.{filter-append}
use Rattle.std.specs.Prelude.{filter, option_map, slice_get, unwrap_or}
use Rattle.pass_frames_steps.specs.ir_model.declared.instr.Instr.{Instr}
use Rattle.pass_frames_steps.specs.ir_model.declared.module.Block.{Block}
use Rattle.pass_frames_steps.proofs.code.Framed.{entry_made}
use Rattle.pass_frames_steps.proofs.code.Passes.{only_made}
use Rattle.pass_frames_steps.proofs.layers.Grown.{both_woven, grown_append}
use Rattle.pass_frames_steps.proofs.layers.Standing.{part_stands}
use Rattle.pass_frames_steps.proofs.stepping.Codes.{block_there, led_passed}
use Rattle.pass_frames_steps.specs.Costs.{allocas_before}
use Rattle.pass_frames_steps.specs.Entering.{AreAllocasBetween, allocas_up_to, front_allocas}
use Rattle.pass_frames_steps.specs.Layers.{IsMadeBy, Layer, becomes, both, grown, only, passed, up_to, woven}
use Rattle.pass_frames_steps.specs.Passes.{block_at, no_block}
use Rattle.pass_frames_steps.specs.Places.{Framing, Placed, edged, entry_layer, framed, instrs_at, placed_layer}
use Rattle.pass_frames_steps.specs.pass_front.Front.{is_alloca, is_no_alloca}
use Rattle.pass_frames_steps.specs.run_framed.Framed.{alloca_from, alloca_in, alloca_of}
use Rattle.pass_frames_steps.specs.run_laws.access.Lines.{StandAt}
use Rattle.pass_frames_steps.specs.run_laws.changed.Changed.{Each}

abbrev W : Framing → List Instr
W x = woven (placed_layer x 0) (instrs_at x 0)

-- the other instructions behind them
abbrev others_behind : Framing → List Instr
others_behind x = filter is_no_alloca (W x)

pub passed_all : (test : Instr → Bool) (is : List Instr) → Each (λ (i : Instr). test i ≡ true) (filter test is)
passed_all test [] = tt
passed_all test (i ∷ is) = on (test i) refl (passed_all test is)
  where
    on : (c : Bool) → test i ≡ c → Each (λ (j : Instr). test j ≡ true) (filter test is)
        → Each (λ (j : Instr). test j ≡ true) (if c then i ∷ filter test is else filter test is)
    on true e more = (e, more)
    on false e more = more

no_pass : (is : List Instr) → Each (λ (k : Instr). is_no_alloca k ≡ true) is → filter is_alloca is ≡ []
no_pass [] h = refl
no_pass (k ∷ is) h = on (is_alloca k) refl (no_pass is h.1)
  where
    on : (b : Bool) → is_alloca k ≡ b → filter is_alloca is ≡ []
        → (if b then k ∷ filter is_alloca is else filter is_alloca is) ≡ []
    on true e more =
        let never : false ≡ true = sym (ap (λ (q : Bool). if q then false else true) e) ∙ h.0 in absurd (cc)
    on false e more = more

take_none : (n : ℕ) → ◌≡◌ {A = List Instr} (take n []) []
take_none zero = refl
take_none (suc n) = refl

none_first : (at : ℕ) (is : List Instr) → Each (λ (i : Instr). is_no_alloca i ≡ true) is → alloca_in at is ≡ None
none_first at [] h = refl
none_first at (i ∷ is) h = on i h.0 ∙ none_first (suc at) is h.1
  where
    on : (j : Instr) → is_no_alloca j ≡ true → alloca_in at (j ∷ is) ≡ alloca_in (suc at) is
    on (Instr.Alloca name ty align) e = absurd (cc)
    on (Instr.Binary r op flags ty a b) e = refl
    on (Instr.Icmp r pred ty a b) e = refl
    on (Instr.Select r k a b) e = refl
    on (Instr.Cast r op nneg a to) e = refl
    on (Instr.Load r ty p align) e = refl
    on (Instr.Store a p align) e = refl
    on (Instr.Gep r inbounds ty p indices) e = refl
    on (Instr.Call r must_tail ty callee args) e = refl

drop_behind : {A : Type 0} (xs ys : List A) → drop (length xs) (xs ++ ys) ≡ ys
drop_behind [] ys = refl
drop_behind (x ∷ xs) ys = drop_behind xs ys

module _ (x : Framing) (there : slice_get (edged x).blocks 0 ≡ Some (block_at (edged x) 0)) where
  entry_block : (c : Block) × (slice_get (framed x).blocks 0 ≡ Some c)
      × IsMadeBy (entry_layer x) (block_at (edged x) 0) c
  entry_block = entry_made x (block_at (edged x) 0) there

  abbrev c : Block
  c = entry_block.0

  abbrev M : Layer (Placed × Unit {0})
  M = both (placed_layer x 0) (only is_no_alloca)

  others_are : woven M (instrs_at x 0) ≡ others_behind x
  others_are =
      both_woven (placed_layer x 0) (only is_no_alloca) (instrs_at x 0)
      ∙ sym (only_made is_no_alloca (record (block_at (edged x) 0) { instrs = W x })).instrs

  instrs_are : c.instrs ≡ front_allocas x ++ others_behind x
  instrs_are =
      entry_block.2.instrs
      ∙ ap (λ (js : List Instr). (front_allocas x ++ M.front) ++
      (js ++ M.back (passed (entry_layer x) M.start (instrs_at x 0))))
      (led_grown M.start (instrs_at x 0))
      ∙ ap (λ (z : Placed × Unit {0}). (front_allocas x ++ M.front) ++ (grown M M.start (instrs_at x 0) ++ M.back z))
      (led_passed (front_allocas x) M M.start (instrs_at x 0))
      ∙ append_assoc (front_allocas x) M.front
      (grown M M.start (instrs_at x 0) ++ M.back (passed M M.start (instrs_at x 0)))
      ∙ ap (λ (js : List Instr). front_allocas x ++ js) others_are
    where
      led_grown : (s : Placed × Unit {0}) (is : List Instr) → grown (entry_layer x) s is ≡ grown M s is
      led_grown s [] = refl
      led_grown s (j ∷ is) = ap (λ (js : List Instr). becomes M s j ++ js) (led_grown (M.after s j) is)

  pub entry_stands : StandAt (framed x) 0 0 (front_allocas x)
  entry_stands = part_stands (framed x) 0 c entry_block.1 [] (front_allocas x) (others_behind x) instrs_are

  pub none_left : alloca_from (framed x) (length (front_allocas x)) ≡ None
  none_left =
      ap (λ (o : Option Block). option_map (λ (k : ℕ). record { block = 0; at = k }) (alloca_of o
      (length (front_allocas x)))) entry_block.1
      ∙ ap (λ (is : List Instr). option_map (λ (k : ℕ). record { block = 0; at = k })
      (alloca_in (length (front_allocas x)) (drop (length (front_allocas x)) is))) instrs_are
      ∙ ap (λ (is : List Instr). option_map (λ (k : ℕ). record { block = 0; at = k })
      (alloca_in (length (front_allocas x)) is)) (drop_behind (front_allocas x) (others_behind x))
      ∙ ap (option_map (λ (k : ℕ). record { block = 0; at = k }))
      (none_first (length (front_allocas x)) (others_behind x) (passed_all is_no_alloca (W x)))

  pub all_counted : allocas_before x None ≡ length (front_allocas x)
  all_counted =
      ap (λ (o : Option Block). length (filter is_alloca (unwrap_or o no_block).instrs)) entry_block.1
      ∙ ap (λ (is : List Instr). length (filter is_alloca is)) instrs_are
      ∙ ap length (filter-append is_alloca (front_allocas x) (others_behind x))
      ∙ ap length
      (λ j. all_pass (front_allocas x) (passed_all is_alloca (W x)) j ++ no_pass (others_behind x)
      (passed_all is_no_alloca (W x)) j)
      ∙ ap length (append-nil (front_allocas x))
    where
      all_pass : (is : List Instr) → Each (λ (k : Instr). is_alloca k ≡ true) is → filter is_alloca is ≡ is
      all_pass [] h = refl
      all_pass (k ∷ is) h =
          ap (λ (b : Bool). if b then k ∷ filter is_alloca is else filter is_alloca is) h.0
          ∙ ap (λ (ks : List Instr). k ∷ ks) (all_pass is h.1)

-- ---- between two of the coroutine's

module _ (x : Framing) where
  take_part : (is : List Instr) (k n : ℕ) → k ≤ n → (js : List Instr) × (take n is ≡ take k is ++ js)
  take_part is zero n le = (take n is, refl)
  take_part [] (suc k) zero le = absurd (omega (arith, le))
  take_part [] (suc k) (suc n) le = ([], refl)
  take_part (j ∷ is) (suc k) zero le = absurd (omega (arith, le))
  take_part (j ∷ is) (suc k) (suc n) le =
      let more = take_part is k n (omega (arith, le)) in (more.0, ap (λ (js : List Instr). j ∷ js) more.1)

  abbrev L : Layer Placed
  L = placed_layer x 0

  up_to_more : (k n : ℕ) → k ≤ n → (js : List Instr) × (up_to L (instrs_at x 0) n ≡ up_to L (instrs_at x 0) k ++ js)
  up_to_more k n le =
      let more = take_part (instrs_at x 0) k n le in (
        grown L (passed L L.start (take k (instrs_at x 0))) more.0,
        ap (λ (is : List Instr). L.front ++ grown L L.start is) more.1
            ∙ ap (λ (js : List Instr). L.front ++ js) (grown_append L L.start (take k (instrs_at x 0)) more.0)
            ∙ sym (append_assoc L.front (grown L L.start (take k (instrs_at x 0)))
            (grown L (passed L L.start (take k (instrs_at x 0))) more.0)),
      )

  whole_more : (n : ℕ) → (js : List Instr) × (W x ≡ up_to L (instrs_at x 0) n ++ js)
  whole_more n =
      let more = take_part (instrs_at x 0) n (n + length (instrs_at x 0)) (omega arith) in
      let all : take (n + length (instrs_at x 0)) (instrs_at x 0) ≡ instrs_at x 0 =
      take_over (instrs_at x 0) n in (
        grown L (passed L L.start (take n (instrs_at x 0))) more.0 ++ L.back (passed L L.start (instrs_at x 0)),
        ap (λ (is : List Instr). L.front ++ (grown L L.start is ++ L.back (passed L L.start (instrs_at x 0))))
            (sym all ∙ more.1)
            ∙ ap (λ (js : List Instr). L.front ++ (js ++ L.back (passed L L.start (instrs_at x 0))))
            (grown_append L L.start (take n (instrs_at x 0)) more.0)
            ∙ ap (λ (js : List Instr). L.front ++ js)
            (append_assoc (grown L L.start (take n (instrs_at x 0)))
            (grown L (passed L L.start (take n (instrs_at x 0))) more.0) (L.back (passed L L.start (instrs_at x 0))))
            ∙ sym (append_assoc L.front (grown L L.start (take n (instrs_at x 0)))
            (grown L (passed L L.start (take n (instrs_at x 0))) more.0 ++ L.back (passed L L.start (instrs_at x 0)))),
      )
    where
      take_over : (is : List Instr) (k : ℕ) → take (k + length is) is ≡ is
      take_over [] k = take_none (k + 0)
      take_over (j ∷ is) k =
          let more : k + suc (length is) ≡ suc (k + length is) = omega arith in
          ap (λ (q : ℕ). take q (j ∷ is)) more ∙ ap (λ (js : List Instr). j ∷ js) (take_over is k)

  pub parts_between : (k n : ℕ) → k ≤ n → AreAllocasBetween x k n
  parts_between k n le =
      let part = up_to_more k n le in
      let whole = whole_more n in
      let first : allocas_up_to x n ≡ allocas_up_to x k ++ filter is_alloca part.0 =
      ap (filter is_alloca) part.1 ∙ filter-append is_alloca (up_to L (instrs_at x 0) k) part.0 in
      record {
        line = filter is_alloca part.0;
        behind = filter is_alloca whole.0;
        is =
            ap (filter is_alloca) whole.1
            ∙ filter-append is_alloca (up_to L (instrs_at x 0) n) whole.0
            ∙ ap (λ (is : List Instr). is ++ filter is_alloca whole.0) first
            ∙ append_assoc (allocas_up_to x k) (filter is_alloca part.0) (filter is_alloca whole.0);
        next_is = first;
      }

-- ---- where the entry has an instruction

module _ (x : Framing) (at : ℕ) (i : Instr) (there : slice_get (instrs_at x 0) at ≡ Some i) where
  pub front_stands : StandAt (framed x) 0 0 (front_allocas x)
  front_stands = entry_stands x (block_there (edged x) 0 at i there)

  pub none_behind : alloca_from (framed x) (length (front_allocas x)) ≡ None
  none_behind = none_left x (block_there (edged x) 0 at i there)

  pub all_before : allocas_before x None ≡ length (front_allocas x)
  all_before = all_counted x (block_there (edged x) 0 at i there)

  pub between : (k n : ℕ) → k ≤ n → AreAllocasBetween x k n
  between = parts_between x

-- What steps of a coroutine cost is at most their price, each by what stands at its place.
use Rattle.std.proofs.Common.{◌≡◌, ◌≢◌, ℕ, ◌+◌, ◌-◌, ◌*◌, ◌<◌, ◌≤◌, Bool, true, false, List, [], length}
use Rattle.std.proofs.Common.{Option, Some, None, refl, sym, ap, ◌∙◌, subst, arith}
use Rattle.std.proofs.lemmas.Option.{slice_get_within}
use Rattle.std.specs.Prelude.{not, slice_get, unwrap_or, ◌&&◌, ◌==◌}
use Rattle.pass_frames_proof.specs.flow_solver.Paths.{IsListed}
use Rattle.pass_frames_proof.proofs.ir_laws.facts.Truth.{equal_numbers}
use Rattle.pass_frames_proof.specs.ir_model.Names.{position_of}
use Rattle.pass_frames_proof.specs.ir_model.declared.instr.Instr.{Instr}
use Rattle.pass_frames_proof.specs.ir_model.declared.instr.Phi.{Phi}
use Rattle.pass_frames_proof.specs.ir_model.declared.instr.Terminator.{Terminator}
use Rattle.pass_frames_proof.specs.ir_model.declared.module.Block.{Block}
use Rattle.pass_frames_proof.specs.ir_model.declared.module.Function.{Function}
use Rattle.pass_frames_proof.specs.ir_paths.Paths.{targets}
use Rattle.pass_frames_proof.specs.ir_paths.declared.point.Point.{Point}
use Rattle.pass_frames_prices.proofs.bounds.Ends.{end_cost_short}
use Rattle.pass_frames_prices.proofs.bounds.Entry.{entry_unreturned}
use Rattle.pass_frames_prices.proofs.bounds.Jumps.{other_jump, return_jump}
use Rattle.pass_frames_prices.proofs.bounds.Paid.{instr_paid}
use Rattle.pass_frames_prices.proofs.bounds.Rows.{row_few}
use Rattle.pass_frames_prices.proofs.bounds.Steps.{behind_cost_short, cost_short, own_few}
use Rattle.pass_frames_prices.proofs.bounds.Totals.{blocks_counted, call_total}
use Rattle.pass_frames_proof.proofs.code.Passes.{block_is}
use Rattle.pass_frames_prices.proofs.priced.Jumps.{bare}
use Rattle.pass_frames_proof.proofs.ramps.Plain.{entry_there}
use Rattle.pass_frames_prices.specs.Bounds.{more_of}
use Rattle.pass_frames_proof.specs.Costs.{call_cost, instr_cost, jump_cost, whole}
use Rattle.pass_frames_prices.specs.FramePrices.{IsBehindOne, IsWithin, coroutine_price, credit, full_price, goes_on, price_by}
use Rattle.pass_frames_prices.specs.FramePrices.{returns_by}
use Rattle.pass_frames_proof.specs.Framings.{IsFraming}
use Rattle.pass_frames_proof.specs.Meaning.{behind_at, own_cost}
use Rattle.pass_frames_prices.specs.Numbers.{names_of, phis_of_blocks}
use Rattle.pass_frames_proof.specs.Passes.{block_at, no_block}
use Rattle.pass_frames_proof.specs.Places.{Framing, edged, instrs_at, is_return, place}
use Rattle.pass_frames_proof.proofs.rule_laws.frames.crossing.Entries.{none_enters}
use Rattle.pass_frames_proof.proofs.rule_laws.rules.sources.Places.{IsEnd}
use Rattle.pass_frames_proof.proofs.rule_laws.rules.threaded.Labels.{HasBlock, target_there}
use Rattle.pass_frames_proof.specs.rule_laws.frames.rows.Returns.{HaveOwnReturns}
use Rattle.pass_frames_proof.specs.run_source.declared.state.Activation.{Activation}

-- ---- prices

least : (names operands : ℕ) (r g : Bool)
    → full_price names operands - credit names ≤ price_by (full_price names operands) (credit names) r g
least names operands true g = omega arith
least names operands false true = omega arith
least names operands false false = omega arith

all_of : (full left : ℕ) (r g : Bool) → g ≡ false → full ≤ price_by full left r g
all_of full left true g e = omega arith
all_of full left false true e = absurd (cc)
all_of full left false false e = omega arith

none_in : (at : ℕ) (is : List Instr) (i : Instr) → is ≡ [] → slice_get is at ≡ Some i → ⊥
none_in at is i e d = let no : None ≡ Some i = sym (ap (λ (js : List Instr). slice_get js at) e) ∙ d in absurd (cc)

apart : (at n : ℕ) → at < n → (at == n) ≡ false
apart at n lt = on (at == n) refl
  where
    on : (b : Bool) → (at == n) ≡ b → b ≡ false
    on false e = refl
    on true e = let same = equal_numbers at n e in absurd (omega (arith, lt, same))

both_none : (a b : Bool) → b ≡ true → (a && not b) ≡ false
both_none true true e = refl
both_none true false e = absurd (cc)
both_none false b e = refl

module _ (x : Framing) (is : IsFraming x) where
  abbrev f : Function
  f = edged x

  abbrev phis : ℕ
  phis = phis_of_blocks (edged x).blocks

  pub phis_few : phis ≤ names_of (edged x)
  phis_few = let a = blocks_counted (edged x).blocks in omega (arith, a)

  -- what stands behind a call, to which a return comes back
  pub behind_few : (a : Activation) → IsBehindOne x a → behind_at x a.block a.at ≤ 1
  behind_few a h =
      let low = behind_cost_short x is (row_few x is) a.block h.at h.instr h.there in
      let none = h.none in
      subst (λ (n : ℕ). behind_at x a.block n ≤ 1) (sym h.behind) (omega (arith, low, none))

  -- a call of the ramp
  pub call_few : call_cost x ≤ 4 * names_of (edged x)
  call_few = call_total x is (entry_there x is) (entry_unreturned x is (entry_there x is))

  later : (k : ℕ) → is_return x k ≡ true → k ≢ 0
  later k e same =
      let no : true ≡ false = sym e ∙ ap (is_return x) same ∙ entry_unreturned x is (entry_there x is) in absurd (cc)

  module _ (names operands : ℕ) (within : IsWithin names operands x) where
    abbrev full : ℕ
    full = full_price names operands

    module _ (own : HaveOwnReturns (edged x)) (k at : ℕ) where
      abbrev p : Point
      p = record { block = k; at = at }

      abbrev price : ℕ
      price = coroutine_price full (credit names) x k at

      -- ---- where an instruction stands

      module _ (i : Instr) (there : slice_get (instrs_at x k) at ≡ Some i) where
        block_there : slice_get f.blocks k ≡ Some (block_at f k)
        block_there = on (slice_get f.blocks k) refl
          where
            on : (o : Option Block) → slice_get f.blocks k ≡ o → o ≡ Some (unwrap_or o no_block)
            on (Some b) e = refl
            on None e =
                absurd (none_in at (instrs_at x k) i
                (ap (λ (o : Option Block). (unwrap_or o no_block).instrs) e) there)

        unreturned : is_return x k ≡ false
        unreturned = on (is_return x k) refl
          where
            on : (b : Bool) → is_return x k ≡ b → b ≡ false
            on false e = refl
            on true e = absurd (none_in at (instrs_at x k) i (bare x is own k block_there e).no_instrs there)

        pub instr_price : full ≤ price
        instr_price =
            let lt = slice_get_within (instrs_at x k) at i there in
            all_of full (credit names) (is_return x k && (at == 0)) (goes_on x k at)
            (ap (λ (t : Bool). t && not (returns_by (block_at f k).term)) (apart at (length (instrs_at x k)) lt))

        pub instr_few : instr_cost x p ≤ full
        instr_few =
            let a = instr_paid x is p i there in
            let b = within.operand k at i there in
            let c = within.few in
            omega (arith, a, b, c)

        pub end_few : more_of x i ≡ 0 → instr_cost x p ≤ 2 + operands
        end_few none =
            let a = cost_short x is (row_few x is) k at i there in
            let b = within.operand k at i there in
            omega (arith, a, b, none)

        pub own_paid : more_of x i ≡ 0 → own_cost x p ≤ 3 + operands
        own_paid none =
            let a = own_few x is (row_few x is) k at i there unreturned in
            let b = within.operand k at i there in
            omega (arith, a, b, none)

      -- ---- where the terminator stands

      module _ (t : Terminator) (e : IsEnd f k at t) where
        own_is : block_at f k ≡ e.own
        own_is = block_is f k e.own e.got

        there : slice_get f.blocks k ≡ Some (block_at f k)
        there = e.got ∙ ap Some (sym own_is)

        term_is : (block_at f k).term ≡ t
        term_is = ap (λ (b : Block). b.term) own_is ∙ e.is

        last : at ≡ length (instrs_at x k)
        last = e.last ∙ ap (λ (b : Block). length b.instrs) (sym own_is)

        module _ (label : ℕ) (l : IsListed label (targets t)) where
          listed : IsListed label (targets e.own.term)
          listed = subst (λ (z : Terminator). IsListed label (targets z)) (sym e.is) l

          abbrev target : ℕ
          target = position_of f label

          block : HasBlock f label
          block =
              target_there x.code is.position f is.frameable.rules.definitions is.frameable.rules.known k e.own label
              e.got listed

          goal : slice_get f.blocks target ≡ Some (block_at f target)
          goal = block.there ∙ ap Some (sym (block_is f target block.block block.there))

          behind : target ≢ 0
          behind same = none_enters x.code is.position f is.frameable.rules k e.own label e.got listed same

          jump_by : (b : Bool) → is_return x k ≡ b
              → jump_cost x k target ≤ price_by full (credit names) (b && (at == 0)) (goes_on x k at)
          jump_by false d =
              let a = other_jump x is target goal behind k there d in
              let b = phis_few in
              let c = within.few in
              let h = within.phi target in
              let j = least names operands false (goes_on x k at) in
              omega (arith, a, b, c, h, j)
          jump_by true d =
              let z = bare x is own k there d in
              let a = return_jump x is target goal behind k there d (later k d) z.no_instrs in
              let b : length (block_at f k).phis ≡ 0 = ap (λ (ps : List Phi). length ps) z.no_phis in
              let c = within.few in
              let h = within.phi target in
              let first : at ≡ 0 = last ∙ ap (λ (js : List Instr). length js) z.no_instrs in
              subst (λ (t : Bool). jump_cost x k target ≤ price_by full (credit names) t (goes_on x k at))
              (sym (ap (λ (n : ℕ). n == 0) first)) (omega (arith, a, b, c, h))

          pub jump_few : jump_cost x k target ≤ price
          jump_few = jump_by (is_return x k) refl

        module _ (r : returns_by t ≡ true) where
          pub return_price : full ≤ price
          return_price =
              all_of full (credit names) (is_return x k && (at == 0)) (goes_on x k at)
              (both_none (at == length (instrs_at x k)) (returns_by (block_at f k).term) (ap returns_by term_is ∙ r))

          returning : is_return x k ≡ false
          returning = on (is_return x k) refl
            where
              on : (b : Bool) → is_return x k ≡ b → b ≡ false
              on false d = refl
              on true d =
                  let z = bare x is own k there d in
                  let no : false ≡ true = sym (ap returns_by z.jump) ∙ ap returns_by term_is ∙ r in absurd (cc)

          pub return_few : whole x k - (place x p).at ≤ 2 * phis + 3
          return_few =
              let a = end_cost_short x is k there returning in
              let b : (place x p).at ≡ (place x (record { block = k; at = length (instrs_at x k) })).at =
              ap (λ (n : ℕ). (place x (record { block = k; at = n })).at) last in
              omega (arith, a, b)

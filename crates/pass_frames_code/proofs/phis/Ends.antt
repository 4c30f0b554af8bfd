-- What is fetched for phis at the end of a block is executed, whatever blocks they stand in.
use Rattle.std.proofs.Common.{◌≡◌, ⊎_elim, ℕ, zero, suc, ◌<◌, ◌≤◌, List, [], ◌∷◌, ◌++◌, length, refl, sym, ap, ◌∙◌, subst, arith}
use Rattle.std.proofs.lemmas.List.{length-replicate}
use Rattle.std.specs.Prelude.{None, Option, Some, map, replicate, unwrap_or}
use Rattle.pass_proofs.proofs.ir_laws.facts.Lists.{set_here, set_length, set_other}
use Rattle.pass_proofs.proofs.ir_laws.facts.Truth.{is_number}
use Rattle.pass_proofs.specs.ir_model.Ty.{Ty}
use Rattle.pass_proofs.specs.ir_model.declared.instr.Incoming.{Incoming}
use Rattle.pass_proofs.specs.ir_model.declared.instr.Instr.{Instr}
use Rattle.pass_proofs.specs.ir_model.declared.instr.Phi.{Phi}
use Rattle.pass_proofs.specs.ir_model.declared.module.Block.{Block}
use Rattle.pass_proofs.specs.ir_model.declared.module.Function.{Function}
use Rattle.pass_proofs.specs.ir_model.declared.operand.Operand.{Operand}
use Rattle.pass_proofs.specs.pass_fetch.Blocks.{end_at, ends_of_blocks, ends_of_incoming, ends_of_phis, next_after_phi, next_after_phis, next_after_phis_by, with_end}
use Rattle.pass_proofs.specs.pass_fetch.Fetching.{fetch_into, fetch_of, fetched_operand, next_after, next_after_all, next_by, operand_by}
use Rattle.pass_proofs.specs.pass_fetch.declared.fetch.Fetch.{Fetch}
use Rattle.pass_frames_code.proofs.distances.Sums.{more_below, set_from, sets_none, sets_on, value_set, value_stays}
use Rattle.pass_frames_code.proofs.fetched.Runs.{can_one, fetch_done, given_stays}
use Rattle.pass_frames_code.specs.Distances.{IsBelow, SetsFrom}
use Rattle.pass_frames_code.specs.Fetched.{CanFetch, IsSeenAs, given_of, seen_by}
use Rattle.pass_frames_code.specs.Phis.{AreBlocksSeen, AreIncomingSeen, ArePhisFetched, ArePhisSeen, CanAllComeFrom, CanComeFrom}
use Rattle.pass_proofs.proofs.fetch.rules.Ends.{blocks_rise, phis_rise}
use Rattle.pass_proofs.proofs.fetch.rules.Puts.{fetch_rises}
use Rattle.pass_proofs.proofs.run_laws.access.Lines.{runs_append}
use Rattle.pass_proofs.specs.run_laws.access.Lines.{Runs}
use Rattle.pass_proofs.specs.run_laws.changed.Changed.{Each}
use Rattle.pass_proofs.specs.run_memory.declared.pointer.Value.{Value}
use Rattle.pass_proofs.specs.run_step.Step.{Context, Work, set_value, value_at}

abbrev Rows : Type 0
Rows = List (List Instr)

abbrev values_of : List Incoming → List Operand
values_of is = map (λ (i : Incoming). i.value) is

-- the table has no row but empty ones
none_at : (n label : ℕ) → end_at (replicate n []) label ≡ []
none_at zero label = refl
none_at (suc n) zero = refl
none_at (suc n) (suc label) = none_at n label

module _ (t : List (Option Fetch)) (given : ℕ → Value) (c : Context) (first label : ℕ) (w : Work) where
  -- the row of the label is executed
  record IsOn (rows : Rows) (x : Work) : Type 0 where
    runs : Runs c (end_at rows label) w x
    sets : SetsFrom first w x
    long : label < length rows

  -- ---- what is seen stays while later names are set

  one_stays : (n m : ℕ) (a : Operand) (x y : Work) → IsBelow first a → first ≤ n → next_after t n a ≤ m
      → SetsFrom m x y → IsSeenAs t given c w x a (fetched_operand t n a)
      → IsSeenAs t given c w y a (fetched_operand t n a)
  one_stays n m a x y low up le s h ty =
      value_stays c m x y ty (fetched_operand t n a) s (below (fetch_of t a) le) ∙ h ty
    where
      below : (o : Option Fetch) → next_by n o ≤ m → IsBelow m (operand_by n o a)
      below None more = more_below first m a (omega (arith, up, more)) low
      below (Some f) more = omega (arith, more)

  incoming_stay : (is : List Incoming) (n m : ℕ) (x y : Work) → first ≤ n
      → Each (CanComeFrom t given first c w label) is → next_after_all t n (values_of is) ≤ m → SetsFrom m x y
      → AreIncomingSeen t given c w x label n is → AreIncomingSeen t given c w y label n is
  incoming_stay [] n m x y up can le s h = tt
  incoming_stay (i ∷ is) n m x y up can le s h =
      let here : n ≤ next_after t n i.value = fetch_rises t n (i.value ∷ []) in
      let later : next_after t n i.value ≤ next_after_all t (next_after t n i.value) (values_of is) =
      fetch_rises t (next_after t n i.value) (values_of is) in (
        λ e. one_stays n m i.value x y (can.0 e).1 up (omega (arith, later, le)) s (h.0 e),
        incoming_stay is (next_after t n i.value) m x y (omega (arith, up, here)) can.1 le s h.1,
      )

  phis_stay : (ps : List Phi) (n m : ℕ) (x y : Work) → first ≤ n
      → Each (λ (p : Phi). Each (CanComeFrom t given first c w label) p.incoming) ps → next_after_phis t n ps ≤ m
      → SetsFrom m x y → ArePhisSeen t given c w x label n ps → ArePhisSeen t given c w y label n ps
  phis_stay [] n m x y up can le s h = tt
  phis_stay (p ∷ ps) n m x y up can le s h =
      let here : n ≤ next_after_phi t n p = fetch_rises t n (values_of p.incoming) in
      let later : next_after_phi t n p ≤ next_after_phis t (next_after_phi t n p) ps =
      phis_rise t (next_after_phi t n p) ps in (
        incoming_stay p.incoming n m x y up can.0 (omega (arith, later, le)) s h.0,
        phis_stay ps (next_after_phi t n p) m x y (omega (arith, up, here)) can.1 le s h.1,
      )

  pub blocks_stay : (bs : List Block) (n m : ℕ) (x y : Work) → first ≤ n
      → CanAllComeFrom t given first c w label bs → next_after_phis_by t n bs ≤ m → SetsFrom m x y
      → AreBlocksSeen t given c w x label n bs → AreBlocksSeen t given c w y label n bs
  blocks_stay [] n m x y up can le s h = tt
  blocks_stay (b ∷ bs) n m x y up can le s h =
      let here : n ≤ next_after_phis t n b.phis = phis_rise t n b.phis in
      let later : next_after_phis t n b.phis ≤ next_after_phis_by t (next_after_phis t n b.phis) bs =
      blocks_rise t (next_after_phis t n b.phis) bs in (
        phis_stay b.phis n m x y up can.0 (omega (arith, later, le)) s h.0,
        blocks_stay bs (next_after_phis t n b.phis) m x y (omega (arith, up, here)) can.1 le s h.1,
      )

  -- ---- one operand

  record IsStep (n from : ℕ) (a : Operand) (o : Option Fetch) (rows : Rows) (x : Work) : Type 0 where
    work : Work
    on : IsOn (with_end rows from n o) work
    since : SetsFrom n x work
    seen : from ≡ label → (ty : Ty) → value_at c work ty (operand_by n o a) ≡ seen_by given c w ty a o

  step : (n from : ℕ) (a : Operand) (rows : Rows) (x : Work) → first ≤ n
      → (from ≡ label → CanFetch t given first c w a × IsBelow first a) → (o : Option Fetch) → fetch_of t a ≡ o
      → next_by n o ≤ length w.values → IsOn rows x → IsStep n from a o rows x
  step n from a rows x up can None e room on = record {
    work = x;
    on = on;
    since = sets_none n x;
    seen = λ at ty. value_stays c first w x ty a on.sets (can at).1;
  }
  step n from a rows x up can (Some f) e room on = ⊎_elim here away (is_number from label)
    where
      long : label < length (with_end rows from n (Some f))
      long =
          let same : length (with_end rows from n (Some f)) ≡ length rows =
          set_length rows from (end_at rows from ++ fetch_into n f ∷ []) in
          let lt : label < length rows = on.long in
          omega (arith, same, lt)

      here : from ≡ label → IsStep n from a (Some f) rows x
      here at =
          let y = can_one t given c first w a (can at).0 f e in
          let v : Value = given_of given a in
          let z : Work = set_value x n v in
          let new : SetsFrom n x z = set_from x n n v (omega arith) in
          let same : length x.values ≡ length w.values = on.sets.room in
          let row : end_at (with_end rows from n (Some f)) label ≡ end_at rows label ++ fetch_into n f ∷ [] =
          subst (λ (l : ℕ). end_at (with_end rows l n (Some f)) label ≡ end_at rows label ++ fetch_into n f ∷ [])
          (sym at)
          (ap (λ (r : Option (List Instr)). unwrap_or r [])
          (set_here rows label (end_at rows label ++ fetch_into n f ∷ []) on.long)) in
          record {
            work = z;
            on = record {
              runs = subst (λ (js : List Instr). Runs c js w z) (sym row)
                  (runs_append c (end_at rows label) (fetch_into n f ∷ []) w x z on.runs (
                    z,
                    (fetch_done t given c n f v x (given_stays t given c first w x f v on.sets y.1 y.0), refl),
                  ));
              sets = sets_on first n w x z up on.sets new;
              long = long;
            };
            since = new;
            seen = λ again ty. value_set x n n v (omega (arith, room, same));
          }

      away : (from ≡ label → ⊥) → IsStep n from a (Some f) rows x
      away d =
          let row : end_at (with_end rows from n (Some f)) label ≡ end_at rows label =
          ap (λ (r : Option (List Instr)). unwrap_or r [])
          (set_other rows from label (end_at rows from ++ fetch_into n f ∷ []) d) in
          record {
            work = x;
            on = record {
              runs = subst (λ (js : List Instr). Runs c js w x) (sym row) on.runs;
              sets = on.sets;
              long = long;
            };
            since = sets_none n x;
            seen = λ at ty. absurd (d at);
          }

  -- ---- all of them

  record Goes (n : ℕ) (x : Work) (rows : Rows) (Seen : Work → Type 0) : Type 0 where
    work : Work
    on : IsOn rows work
    since : SetsFrom n x work
    seen : Seen work

  incoming_on : (is : List Incoming) (n : ℕ) (rows : Rows) (x : Work) → first ≤ n
      → Each (CanComeFrom t given first c w label) is → next_after_all t n (values_of is) ≤ length w.values
      → IsOn rows x
      → Goes n x (ends_of_incoming t n rows is) (λ (y : Work). AreIncomingSeen t given c w y label n is)
  incoming_on [] n rows x up can room on = record { work = x; on = on; since = sets_none n x; seen = tt }
  incoming_on (i ∷ is) n rows x up can room on =
      let here : n ≤ next_after t n i.value = fetch_rises t n (i.value ∷ []) in
      let later : next_after t n i.value ≤ next_after_all t (next_after t n i.value) (values_of is) =
      fetch_rises t (next_after t n i.value) (values_of is) in
      let s = step n i.from i.value rows x up can.0 (fetch_of t i.value) refl (omega (arith, later, room)) on in
      let r = incoming_on is (next_after t n i.value) (with_end rows i.from n (fetch_of t i.value)) s.work
      (omega (arith, up, here)) can.1 room s.on in
      record {
        work = r.work;
        on = r.on;
        since = sets_on n (next_after t n i.value) x s.work r.work here s.since r.since;
        seen = (
          λ e. one_stays n (next_after t n i.value) i.value s.work r.work (can.0 e).1 up (omega arith) r.since
              (s.seen e),
          r.seen,
        );
      }

  phis_on : (ps : List Phi) (n : ℕ) (rows : Rows) (x : Work) → first ≤ n
      → Each (λ (p : Phi). Each (CanComeFrom t given first c w label) p.incoming) ps
      → next_after_phis t n ps ≤ length w.values → IsOn rows x
      → Goes n x (ends_of_phis t n rows ps) (λ (y : Work). ArePhisSeen t given c w y label n ps)
  phis_on [] n rows x up can room on = record { work = x; on = on; since = sets_none n x; seen = tt }
  phis_on (p ∷ ps) n rows x up can room on =
      let m : ℕ = next_after_phi t n p in
      let here : n ≤ m = fetch_rises t n (values_of p.incoming) in
      let later : m ≤ next_after_phis t m ps = phis_rise t m ps in
      let s = incoming_on p.incoming n rows x up can.0 (omega (arith, later, room)) on in
      let r = phis_on ps m (ends_of_incoming t n rows p.incoming) s.work (omega (arith, up, here)) can.1 room s.on in
      record {
        work = r.work;
        on = r.on;
        since = sets_on n m x s.work r.work here s.since r.since;
        seen = (incoming_stay p.incoming n m s.work r.work up can.0 (omega arith) r.since s.seen, r.seen);
      }

  blocks_on : (bs : List Block) (n : ℕ) (rows : Rows) (x : Work) → first ≤ n
      → CanAllComeFrom t given first c w label bs → next_after_phis_by t n bs ≤ length w.values → IsOn rows x
      → Goes n x (ends_of_blocks t n rows bs) (λ (y : Work). AreBlocksSeen t given c w y label n bs)
  blocks_on [] n rows x up can room on = record { work = x; on = on; since = sets_none n x; seen = tt }
  blocks_on (b ∷ bs) n rows x up can room on =
      let m : ℕ = next_after_phis t n b.phis in
      let here : n ≤ m = phis_rise t n b.phis in
      let later : m ≤ next_after_phis_by t m bs = blocks_rise t m bs in
      let s = phis_on b.phis n rows x up can.0 (omega (arith, later, room)) on in
      let r = blocks_on bs m (ends_of_phis t n rows b.phis) s.work (omega (arith, up, here)) can.1 room s.on in
      record {
        work = r.work;
        on = r.on;
        since = sets_on n m x s.work r.work here s.since r.since;
        seen = (phis_stay b.phis n m s.work r.work up can.0 (omega arith) r.since s.seen, r.seen);
      }

pub phis_fetched : (t : List (Option Fetch)) (given : ℕ → Value) (c : Context) (f : Function) (label : ℕ) (w : Work)
    → label < length f.names → CanAllComeFrom t given (length f.names) c w label f.blocks
    → next_after_phis_by t (length f.names) f.blocks ≤ length w.values → ArePhisFetched t given c f label w
phis_fetched t given c f label w lt can room =
    let first : ℕ = length f.names in
    let rows : Rows = replicate first [] in
    let long : length rows ≡ first = length-replicate first [] in
    let r = blocks_on t given c first label w f.blocks first rows w (omega arith) can room (record {
      runs = subst (λ (js : List Instr). Runs c js w w) (sym (none_at first label)) refl;
      sets = sets_none first w;
      long = omega (arith, long, lt);
    }) in
    record { work = r.work; runs = r.on.runs; sets = r.on.sets; seen = r.seen }

-- The first undefined use, chunk after chunk.
use Rattle.std.proofs.Common.{◌≡◌, ℕ, zero, suc, ◌+◌, ◌/◌, ◌<◌, ◌≤◌, ◌⊎◌, Bool, true, false, List, [], ◌∷◌, ◌++◌, length, map, take, get_or, replicate, Some, None, Ok, Err, Option, Result, IfOk, refl, sym, ap, ◌∙◌, subst, ⊎_elim, inl, inr, arith}
use Rattle.std.specs.Prelude.{option_map, slice_get, slice_set}
use Rattle.std.proofs.lemmas.List.{map-append, take_more}
use Rattle.flow_blocks.proofs.Telling.{one_marked}
use Rattle.std.proofs.lemmas.Bool.{cases_lt, false≢true}
use Rattle.std.proofs.lemmas.Option.{slice_get_within}
use Rattle.flow_bits.specs.Reaching.{AnswersAt}
use Rattle.flow_blocks.specs.Edges.{block_edges, graph_of}
use Rattle.flow_blocks.specs.Words.{AreMarked}
use Rattle.ir_base.specs.declared.outcome.Place.{Place}
use Rattle.rule_uses.proofs.Asking.{open_is_told, told_is_open}
use Rattle.rule_uses.proofs.Standing.{AreWithin, Stands, all_stand}
use Rattle.rule_uses.proofs.Standing.Stands.{Nothing, LeftOut, Taken}
use Rattle.rule_uses.specs.Questions.{AreNumbered, IsBest, IsFirstOpen, IsFirstTold, IsNumbering, IsOpen, IsSettled, all_bits, block_word, edge_word, is_told}
use Rattle.rule_uses.specs.Scan.{open_blocks}
use Rattle.rule_uses.specs.Undefined.{IsFirstUndefined, IsUndefined, params_of}
use Rattle.rule_uses.specs.Undefined.IsFirstUndefined.{Nowhere, Here, Later}
use Rattle.rule_uses.specs.Uses.{Use, uses_of}
use Rattle.rule_uses.specs.declared.open_use.OpenUse.{OpenUse}
use Rattle.flow_solver.proofs.Lists.{listed_at, place_of}
use Rattle.flow_solver.specs.Paths.{IsListed}
use Rattle.flow_solver.specs.declared.graph.Graph.{Graph}
use Rattle.ir_model.specs.declared.module.Block.{Block}
use Rattle.ir_model.specs.declared.module.Function.{Function}
use Rattle.ir_model.specs.declared.module.Param.{Param}

-- ---- one chunk

pub settled : (f : Function) (g : Graph) (numbers : List (Option ℕ)) (values : List ℕ) (opens : List OpenUse) (chunk limit found : ℕ) (made words : List ℕ) →
    g ≡ graph_of f → IsNumbering (length f.names) numbers values → made ≡ map (block_word numbers chunk) f.blocks → length words ≡ g.nodes →
    ((node word : ℕ) → slice_get words node ≡ Some word → AnswersAt g.edges (map (edge_word made) g.edges) ((0, all_bits) ∷ []) node word) →
    IsFirstTold numbers chunk made words opens limit found → IsSettled f numbers opens chunk limit found
settled f g numbers values opens chunk limit found made words g_is numbering made_is len answers first = record {
  within = first.within;
  here = λ u lt at. told_is_open (length f.names) numbers values numbering chunk f words len2 answers2 u (subst (λ (m : List ℕ). is_told numbers chunk m words u ≡ true) made_is (first.here u lt at));
  before = λ i k u lt at number is o. false≢true
      (sym (first.before i u lt at) ∙ ap (λ (m : List ℕ). is_told numbers chunk m words u) made_is ∙ open_is_told (length f.names) numbers values numbering chunk f words len2 answers2 u k number is o);
}
  where
    len2 : length words ≡ length f.blocks + 1
    len2 = len ∙ ap (λ (x : Graph). x.nodes) g_is

    answers2 : (node word : ℕ) → slice_get words node ≡ Some word → AnswersAt (block_edges f) (map (edge_word (map (block_word numbers chunk) f.blocks)) (block_edges f)) ((0, all_bits) ∷ []) node word
    answers2 node word at =
        subst (λ (m : List ℕ). AnswersAt (block_edges f) (map (edge_word m) (block_edges f)) ((0, all_bits) ∷ []) node word) made_is
        (subst (λ (x : Graph). AnswersAt x.edges (map (edge_word made) x.edges) ((0, all_bits) ∷ []) node word) g_is (answers node word at))

-- ---- all chunks

pub best_first : (f : Function) (numbers : List (Option ℕ)) (opens : List OpenUse) → IsBest f numbers opens 0 (length opens)
best_first f numbers opens = record {
  within = omega arith;
  here = λ u at. let lt = slice_get_within opens (length opens) u at in absurd (omega (arith, lt));
  before = λ i k u lt at number less o. absurd (omega arith);
}

pub best_next : (f : Function) (numbers : List (Option ℕ)) (opens : List OpenUse) (chunk limit found : ℕ) → IsBest f numbers opens chunk limit → IsSettled f numbers opens chunk limit found → IsBest f numbers opens (chunk + 1) found
best_next f numbers opens chunk limit found b s = record {
  within = let one = s.within in let two = b.within in omega (arith, one, two);
  here = λ u at. ⊎_elim (λ less. s.here u less at)
      (λ more. let le = s.within in let same : found ≡ limit = omega (arith, le, more) in b.here u (ap (slice_get opens) (sym same) ∙ at))
      (cases_lt found limit);
  before = λ i k u lt at number less o. ⊎_elim
      (λ early. let le = s.within in b.before i k u (omega (arith, lt, le)) at number early o)
      (λ now. s.before i k u lt at number (omega (arith, less, now)) o)
      (cases_lt (k / 64) chunk);
}

pub best_last : (f : Function) (names : ℕ) (numbers : List (Option ℕ)) (values : List ℕ) (opens : List OpenUse) (chunk found : ℕ) → AreNumbered names opens numbers values → ((k : ℕ) → k < length values → k / 64 < chunk) →
    IsBest f numbers opens chunk found → IsFirstOpen f opens found
best_last f names numbers values opens chunk found a all b = record {
  here = b.here;
  before = λ i u lt at o. let k = a.numbered u (listed_at opens i u at) in b.before i k.0 u lt at k.1.0 (all k.0 k.1.1) o;
}

-- ---- the first use

first_of : (f : Function) (us : List Use) (os : List OpenUse) → Stands f us os → (found : ℕ) → IsFirstOpen f os found → IsFirstUndefined f us (option_map (λ (o : OpenUse). o.place) (slice_get os found))
first_of f _ _ Nothing found first = Nowhere
first_of f _ _ (LeftOut u us os never s) found first = Later u us (option_map (λ (o : OpenUse). o.place) (slice_get os found)) never (first_of f us os s found first)
first_of f _ _ (Taken u us o os same to from s) zero first =
    subst (λ (p : Place). IsFirstUndefined f (u ∷ us) (Some p)) (sym same) (Here u us (from (first.here o refl)))
first_of f _ _ (Taken u us o os same to from s) (suc i) first =
    Later u us (option_map (λ (x : OpenUse). x.place) (slice_get os i)) (λ und. first.before 0 o (omega arith) refl (to und))
    (first_of f us os s i (record { here = first.here; before = λ j x lt at. first.before (suc j) x (omega (arith, lt)) at }))

-- all open uses have values with names
numbered_within : (names : ℕ) (opens : List OpenUse) (numbers : List (Option ℕ)) (values : List ℕ) → AreNumbered names opens numbers values → AreWithin names opens
numbered_within names opens numbers values a u h =
    let k = a.numbered u h in
    let lt = slice_get_within numbers u.value (Some k.0) k.1.0 in
    let len = a.numbering.numbers_length in
    omega (arith, lt, len)

pub first_use : (f : Function) (func : ℕ) (params : List Bool) (opens : List OpenUse) (numbers : List (Option ℕ)) (values : List ℕ) (found : ℕ) → AreMarked (length f.names) (params_of f) params →
    opens ≡ open_blocks f params (replicate (length f.names) None) func 0 f.blocks → AreNumbered (length f.names) opens numbers values → IsFirstOpen f opens found →
    IsFirstUndefined f (uses_of func f) (option_map (λ (o : OpenUse). o.place) (slice_get opens found))
first_use f func params opens numbers values found marked is a first =
    first_of f (uses_of func f) opens
    (subst (Stands f (uses_of func f)) (sym is) (all_stand f (length f.names) params marked func (subst (AreWithin (length f.names)) is (numbered_within (length f.names) opens numbers values a))))
    found first

-- ---- the answers of the functions

pub settled_by : (f : Function) (g : Graph) (numbers : List (Option ℕ)) (values : List ℕ) (opens : List OpenUse) (chunk limit found : ℕ) (blocks : List Block) (made made1 made2 words words2 : List ℕ) →
    g ≡ graph_of f → IsNumbering (length f.names) numbers values → blocks ≡ f.blocks → made ≡ map (block_word numbers chunk) blocks → made1 ≡ made → made2 ≡ made → words2 ≡ words → length words ≡ g.nodes →
    ((node word : ℕ) → slice_get words node ≡ Some word → AnswersAt g.edges (map (edge_word made1) g.edges) ((0, all_bits) ∷ []) node word) →
    IsFirstTold numbers chunk made2 words2 opens limit found → IsSettled f numbers opens chunk limit found
settled_by f g numbers values opens chunk limit found blocks made made1 made2 words words2 g_is numbering blocks_is made_is one two other len answers first =
    settled f g numbers values opens chunk limit found made words g_is numbering (made_is ∙ ap (map (block_word numbers chunk)) blocks_is) len
    (λ node word at. subst (λ (m : List ℕ). AnswersAt g.edges (map (edge_word m) g.edges) ((0, all_bits) ∷ []) node word) one (answers node word at))
    (subst (λ (m : List ℕ). IsFirstTold numbers chunk m words opens limit found) two (subst (λ (w : List ℕ). IsFirstTold numbers chunk made2 w opens limit found) other first))

pub first_use_by : (f : Function) (func : ℕ) (params : List Bool) (opens opens1 opens2 opens3 : List OpenUse) (names : ℕ) (numbers : List (Option ℕ)) (values : List ℕ) (found : ℕ) (place : Option Place) → names ≡ length f.names → opens1 ≡ opens → opens2 ≡ opens → opens3 ≡ opens →
    AreMarked (length f.names) (params_of f) params → opens ≡ open_blocks f params (replicate (length f.names) None) func 0 f.blocks → AreNumbered names opens1 numbers values → IsFirstOpen f opens2 found →
    place ≡ option_map (λ (o : OpenUse). o.place) (slice_get opens3 found) → IsFirstUndefined f (uses_of func f) place
first_use_by f func params opens opens1 opens2 opens3 names numbers values found place names_is one two three marked is a first place_is =
    subst (IsFirstUndefined f (uses_of func f)) (sym (place_is ∙ ap (λ (l : List OpenUse). option_map (λ (o : OpenUse). o.place) (slice_get l found)) three))
    (first_use f func params opens numbers values found marked is
    (subst (λ (l : List OpenUse). AreNumbered (length f.names) l numbers values) one (subst (λ (n : ℕ). AreNumbered n opens1 numbers values) names_is a))
    (subst (λ (l : List OpenUse). IsFirstOpen f l found) two first))

pub param_step : (n i : ℕ) (params xs : List Param) (p : Param) (marks marks2 : List Bool) → xs ≡ params → i < length xs → p ≡ get_or xs i p → marks2 ≡ slice_set marks p.name true →
    AreMarked n (map (λ (x : Param). x.name) (take i params)) marks → AreMarked n (map (λ (x : Param). x.name) (take (i + 1) params)) marks2
param_step n i params xs p marks marks2 same lt is set m =
    subst (λ (l : List Param). AreMarked n (map (λ (x : Param). x.name) (take (i + 1) l)) marks2) same
    (subst (λ (l : List ℕ). AreMarked n l marks2) (sym taken)
    (subst (AreMarked n (map (λ (x : Param). x.name) (take i xs) ++ p.name ∷ [])) (sym set)
    (one_marked n p.name (map (λ (x : Param). x.name) (take i xs)) marks (subst (λ (l : List Param). AreMarked n (map (λ (x : Param). x.name) (take i l)) marks) (sym same) m))))
  where
    taken : map (λ (x : Param). x.name) (take (i + 1) xs) ≡ map (λ (x : Param). x.name) (take i xs) ++ p.name ∷ []
    taken =
        ap (map (λ (x : Param). x.name)) (take_more xs i p lt ∙ ap (λ (x : Param). take i xs ++ x ∷ []) (sym is))
        ∙ map-append (λ (x : Param). x.name) (take i xs) (p ∷ [])

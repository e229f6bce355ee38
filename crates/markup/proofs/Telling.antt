-- What the bytes behind a `<` tell, by how the markup goes on, and what text tells. Assumes nothing.
use Rattle.std.proofs.Common.{◌≡◌, ℕ, suc, ◌+◌, Bool, true, false, not, eqb, List, [], ◌∷◌, ◌++◌, take, drop, sym, refl, ap, ◌∙◌, append_assoc, arith}
use Rattle.std.specs.List.{prefix_len}
use Rattle.vocabulary.specs.declared.faults.Fault.{Fault}
use Rattle.vocabulary.specs.declared.faults.Question.TheVariants.{ByteMisfit}
use Rattle.vocabulary.specs.Faults.{fault}
use Rattle.message.specs.Sources.{faulted}
use Rattle.markup.specs.Tags.{State, Move, on, ended, misplaced, misfit, after, name_in, Scan, cut_short, ends, begins_none, misfits, later, scan_by, scan_from}
use Rattle.markup.specs.Readings.{Stand, between, behind, stopped, Step, is_empty, acted, moved, silent, step, events_from, ending_from}
use Rattle.markup.specs.Runs.{is_text}
use Rattle.std.proofs.lemmas.Bool.{cond-true, cond-false}
use Rattle.markup.specs.Tellings.{events_by, ending_by}

pub stopped_events : (voc : List (List ℕ)) (f : Fault) (n : ℕ) (bs : List ℕ) → events_from voc (stopped f) n bs ≡ []
stopped_events voc f n [] = refl
stopped_events voc f n (b ∷ bs) = stopped_events voc f (n + 1) bs

pub stopped_ending : (voc : List (List ℕ)) (f : Fault) (n : ℕ) (bs : List ℕ) → ending_from voc (stopped f) n bs ≡ faulted f
stopped_ending voc f n [] = refl
stopped_ending voc f n (b ∷ bs) = stopped_ending voc f (n + 1) bs

module _ (voc : List (List ℕ)) (st : Stand) (p : ℕ) where
  on_events : (acc bs : List ℕ) (n b : ℕ) (x : Scan) → events_by voc st p (acc ++ b ∷ []) (n + 1) bs x ≡ events_by voc st p acc n (b ∷ bs) (later x)
  on_events acc bs n b cut_short = refl
  on_events acc bs n b (ends k c) =
      let e : n + 1 + c ≡ n + suc c = omega arith in
      λ i. (acted voc st p k (name_in k (append_assoc acc (b ∷ []) (take c bs) i))).told ++ events_from voc (acted voc st p k (name_in k (append_assoc acc (b ∷ []) (take c bs) i))).next (e i) (drop c bs)
  on_events acc bs n b begins_none = refl
  on_events acc bs n b (misfits c) = refl

  on_ending : (acc bs : List ℕ) (n b : ℕ) (x : Scan) → ending_by voc st p (acc ++ b ∷ []) (n + 1) bs x ≡ ending_by voc st p acc n (b ∷ bs) (later x)
  on_ending acc bs n b cut_short = refl
  on_ending acc bs n b (ends k c) =
      let e : n + 1 + c ≡ n + suc c = omega arith in
      λ i. ending_from voc (acted voc st p k (name_in k (append_assoc acc (b ∷ []) (take c bs) i))).next (e i) (drop c bs)
  on_ending acc bs n b begins_none = refl
  on_ending acc bs n b (misfits c) = let e : n + 1 + c ≡ n + suc c = omega arith in ap (λ i. faulted (fault ByteMisfit i)) e

  events_move : (acc bs : List ℕ) (n b : ℕ) (m : Move) → ((s : State) → events_from voc (behind st p s (acc ++ b ∷ [])) (n + 1) bs ≡ events_by voc st p (acc ++ b ∷ []) (n + 1) bs (scan_from s bs)) → (moved voc st p n (acc ++ b ∷ []) m).told ++ events_from voc (moved voc st p n (acc ++ b ∷ []) m).next (n + 1) bs ≡ events_by voc st p acc n (b ∷ bs) (scan_by m (λ t. scan_from t bs))
  events_move acc bs n b (on s) ih = ih s ∙ on_events acc bs n b (scan_from s bs)
  events_move acc bs n b (ended k) ih = refl
  events_move acc bs n b misplaced ih = stopped_events voc _ (n + 1) bs
  events_move acc bs n b misfit ih = stopped_events voc _ (n + 1) bs

  pub events_run : (s : State) (acc : List ℕ) (n : ℕ) (bs : List ℕ) → events_from voc (behind st p s acc) n bs ≡ events_by voc st p acc n bs (scan_from s bs)
  events_run s acc n [] = refl
  events_run s acc n (b ∷ bs) = events_move acc bs n b (after s b) (λ t. events_run t (acc ++ b ∷ []) (n + 1) bs)

  ending_move : (acc bs : List ℕ) (n b : ℕ) (m : Move) → ((s : State) → ending_from voc (behind st p s (acc ++ b ∷ [])) (n + 1) bs ≡ ending_by voc st p (acc ++ b ∷ []) (n + 1) bs (scan_from s bs)) → ending_from voc (moved voc st p n (acc ++ b ∷ []) m).next (n + 1) bs ≡ ending_by voc st p acc n (b ∷ bs) (scan_by m (λ t. scan_from t bs))
  ending_move acc bs n b (on s) ih = ih s ∙ on_ending acc bs n b (scan_from s bs)
  ending_move acc bs n b (ended k) ih = refl
  ending_move acc bs n b misplaced ih = stopped_ending voc _ (n + 1) bs
  ending_move acc bs n b misfit ih = stopped_ending voc _ (n + 1) bs ∙ (let e : n ≡ n + 0 = omega arith in ap (λ i. faulted (fault ByteMisfit i)) e)

  pub ending_run : (s : State) (acc : List ℕ) (n : ℕ) (bs : List ℕ) → ending_from voc (behind st p s acc) n bs ≡ ending_by voc st p acc n bs (scan_from s bs)
  ending_run s acc n [] = refl
  ending_run s acc n (b ∷ bs) = ending_move acc bs n b (after s b) (λ t. ending_run t (acc ++ b ∷ []) (n + 1) bs)

-- text inside the root tells nothing
module _ (voc : List (List ℕ)) (st : Stand) (some : is_empty st.names ≡ false) where
  silent_byte : (n b : ℕ) → eqb b 60 ≡ false → step voc (between st) n b ≡ silent (between st)
  silent_byte n b h = cond-false _ _ _ h ∙ cond-false _ _ _ some

  pub text_events_lem : (n : ℕ) (bs : List ℕ) → events_from voc (between st) n bs ≡ events_from voc (between st) (n + prefix_len is_text bs) (drop (prefix_len is_text bs) bs)
  text_events_lem n [] = refl
  text_events_lem n (b ∷ bs) = by_byte (eqb b 60) refl (text_events_lem (n + 1) bs)
    where
      by_byte : (p : Bool) → eqb b 60 ≡ p → events_from voc (between st) (n + 1) bs ≡ events_from voc (between st) (n + 1 + prefix_len is_text bs) (drop (prefix_len is_text bs) bs) → events_from voc (between st) n (b ∷ bs) ≡ events_from voc (between st) (n + prefix_len is_text (b ∷ bs)) (drop (prefix_len is_text (b ∷ bs)) (b ∷ bs))
      by_byte true h ih =
          let e : prefix_len is_text (b ∷ bs) ≡ 0 = cond-false _ _ _ (ap not h) in
          let z : n ≡ n + prefix_len is_text (b ∷ bs) = omega arith in
          λ i. events_from voc (between st) (z i) (drop (sym e i) (b ∷ bs))
      by_byte false h ih =
          let k = prefix_len is_text bs in
          let e : suc k ≡ prefix_len is_text (b ∷ bs) = (let f : 1 + k ≡ suc k = omega arith in sym (cond-true _ _ _ (ap not h) ∙ f)) in
          let z : n + 1 + k ≡ n + prefix_len is_text (b ∷ bs) = omega arith in
          ap (λ (s : Step). s.told ++ events_from voc s.next (n + 1) bs) (silent_byte n b h)
          ∙ ih
          ∙ (λ i. events_from voc (between st) (z i) (drop (e i) (b ∷ bs)))

  pub text_ending_lem : (n : ℕ) (bs : List ℕ) → ending_from voc (between st) n bs ≡ ending_from voc (between st) (n + prefix_len is_text bs) (drop (prefix_len is_text bs) bs)
  text_ending_lem n [] = ap (λ i. ending_from voc (between st) i []) (omega arith)
  text_ending_lem n (b ∷ bs) = by_byte (eqb b 60) refl (text_ending_lem (n + 1) bs)
    where
      by_byte : (p : Bool) → eqb b 60 ≡ p → ending_from voc (between st) (n + 1) bs ≡ ending_from voc (between st) (n + 1 + prefix_len is_text bs) (drop (prefix_len is_text bs) bs) → ending_from voc (between st) n (b ∷ bs) ≡ ending_from voc (between st) (n + prefix_len is_text (b ∷ bs)) (drop (prefix_len is_text (b ∷ bs)) (b ∷ bs))
      by_byte true h ih =
          let e : prefix_len is_text (b ∷ bs) ≡ 0 = cond-false _ _ _ (ap not h) in
          let z : n ≡ n + prefix_len is_text (b ∷ bs) = omega arith in
          λ i. ending_from voc (between st) (z i) (drop (sym e i) (b ∷ bs))
      by_byte false h ih =
          let k = prefix_len is_text bs in
          let e : suc k ≡ prefix_len is_text (b ∷ bs) = (let f : 1 + k ≡ suc k = omega arith in sym (cond-true _ _ _ (ap not h) ∙ f)) in
          let z : n + 1 + k ≡ n + prefix_len is_text (b ∷ bs) = omega arith in
          ap (λ (s : Step). ending_from voc s.next (n + 1) bs) (silent_byte n b h)
          ∙ ih
          ∙ (λ i. ending_from voc (between st) (z i) (drop (e i) (b ∷ bs)))

-- What one read of a reader takes from its records.
use Rattle.std.proofs.Common.{Bor, ℕ, zero, suc, arith, length, ◌+◌, ◌≡◌, List, [], ◌∷◌, Some, true, false, refl}
use Rattle.csv.specs.Machine.{Read, next_record, ends_at_end}
use Rattle.csv.specs.Reading.{default_config, Reached, ReadRecord}
use Rattle.csv.specs.Records.{field_at}
use Rattle.csv.specs.declared.reader.Reader.{Reader}
use Rattle.csv.specs.declared.parser.State.{State}
use Rattle.csv.proofs.ReadFacts.{rows-more, rows-end}
use Rattle.std.specs.List.{slice_get}
use Rattle.md_records.specs.Left.{bytes_left, records_in, IsReading}
use Rattle.md_records.specs.Text.{records_left}
use Rattle.md_records.proofs.NextRecord.{next_record-takes, records_from-step, records_from-none}

pub field_at-slice_get : (fields : List (List ℕ)) (i : ℕ) → field_at fields i ≡ slice_get fields i
unfolding field_at
field_at-slice_get [] i = refl
field_at-slice_get (f ∷ fs) zero = refl
field_at-slice_get (f ∷ fs) (suc i) = field_at-slice_get fs i

-- a record that was reached from the state at hand is the next one
first-reached : (s t : State) (ys zs : List ℕ) (f : List (List ℕ)) → Reached default_config s ys (f ∷ []) t zs
    → (p : Read) × (next_record default_config s [] [] ys ≡ Some p) × (f ≡ p.0) × (p.1 ≡ t) × (p.2 ≡ zs)
unfolding Reached
first-reached s t ys zs f h = (h.0, h.1, h.2, h.3.0, h.3.1)

-- the records that are left, by the first of them
left-step : (s t : State) (ys zs : List ℕ) (f : List (List ℕ)) (p : Read) → ends_at_end s ≡ false → next_record default_config s [] [] ys ≡ Some p → f ≡ p.0 → p.1 ≡ t → p.2 ≡ zs
    → records_left s ys ≡ f ∷ records_left t zs
left-step s t ys zs f p between next fields state rest =
    rw (fields, ← state, ← rest) (records_from-step (length ys + 1) s ys p (omega arith) between next)

first-between : (s t : State) (ys : List ℕ) (p : Read) → next_record default_config s [] [] ys ≡ Some p → p.1 ≡ t → ends_at_end t ≡ false
first-between s t ys p next state = rw (← state) (next_record-takes s [] [] ys p next).between

-- a read that found a record took the first of those that were left
pub record FirstTaken (a b : Reader (Bor (List ℕ))) (f : List (List ℕ)) : Type 0 where
  pub bytes : List ℕ
  pub known : bytes_left b ≡ Some bytes
  pub between : ends_at_end b.state ≡ false
  pub first : records_in a.state (bytes_left a) ≡ f ∷ records_in b.state (bytes_left b)

taken-first : (a b : Reader (Bor (List ℕ))) (f : List (List ℕ)) → (h : IsReading a) → (zs : List ℕ) → bytes_left b ≡ Some zs
    → (q : (p : Read) × (next_record default_config a.state [] [] h.bytes ≡ Some p) × (f ≡ p.0) × (p.1 ≡ b.state) × (p.2 ≡ zs)) → FirstTaken a b f
taken-first a b f h zs known q = record {
  bytes = zs;
  known = known;
  between = first-between a.state b.state h.bytes q.0 q.1 q.3;
  first = rw (h.known, known) (left-step a.state b.state h.bytes zs f q.0 h.between q.1 q.2 q.3 q.4);
}

pub took-first : (a b : Reader (Bor (List ℕ))) (f : List (List ℕ)) → IsReading a → ReadRecord (λ bytes. Some bytes.now) a b true f → FirstTaken a b f
unfolding Reached
took-first a b f h r =
    let m = rows-more (λ (bytes : Bor (List ℕ)). Some bytes.now) a b f default_config a.state h.bytes h.bytes [] h.config h.known (refl, refl) r in
    taken-first a b f h m.0 m.1 (first-reached a.state b.state h.bytes m.0 f m.2)

-- a read that found none was at the end
pub took-none : (a b : Reader (Bor (List ℕ))) (f : List (List ℕ)) → IsReading a → ReadRecord (λ bytes. Some bytes.now) a b false f → records_in a.state (bytes_left a) ≡ []
took-none a b f h r =
    rw h.known (records_from-none _ a.state h.bytes (rows-end (λ (bytes : Bor (List ℕ)). Some bytes.now) a b f default_config h.bytes h.config h.known r))

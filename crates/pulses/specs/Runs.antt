-- Sample, run, run that counts, pulse and edge of a burst's record: document 01, "Lists, burst records and pulses".
-- Nothing here knows of a lane. A record is a list of samples, and E is the type of edges.
use Rattle.std.specs.Prelude.{Bool, true, false, List, [], ◌∷◌, ◌++◌, ℕ, zero, suc, ◌-◌, leb, length}
use Rattle.std.proofs.Math.Option.{Option, none, some}

-- A sample: its level, high (true) or low, and the edge that demand 2's definition has for its run once it has seen it.
pub data Sample (E : Type 0) : Type 0 where
  sample : Bool → E → Sample E

-- A run: its level, and the edges held at its samples in order.
pub data Run (E : Type 0) : Type 0 where
  run : Bool → List E → Run E

module _ {E : Type 0} where
  -- a sample before a list of runs joins the first of them if that has its level
  unfoldable pub join : Bool → E → List (Run E) → List (Run E)
  join l e [] = run l (e ∷ []) ∷ []
  join true e (run true es ∷ rs) = run true (e ∷ es) ∷ rs
  join true e (run false es ∷ rs) = run true (e ∷ []) ∷ run false es ∷ rs
  join false e (run false es ∷ rs) = run false (e ∷ es) ∷ rs
  join false e (run true es ∷ rs) = run false (e ∷ []) ∷ run true es ∷ rs

  -- "A run is a stretch of neighbouring samples of one level in the burst's record, as long as it can be." That no other list of
  -- runs divides the record so is `runs_unique` in proofs/Division.
  unfoldable pub runs : List (Sample E) → List (Run E)
  runs [] = []
  runs (sample l e ∷ xs) = join l e (runs xs)

  unfoldable pub size : Run E → ℕ
  size (run l es) = length es

  unfoldable pub keep : Bool → Run E → List (Run E) → List (Run E)
  keep true r rs = r ∷ rs
  keep false r rs = rs

  -- "It counts if it has at least min_steps samples. Leave out the runs that do not count."
  unfoldable pub counted : ℕ → List (Run E) → List (Run E)
  counted m [] = []
  counted m (r ∷ rs) = keep (leb m (size r)) r (counted m rs)

-- A pulse: its first high run, the further high runs of its row, and the low run that closes it.
pub record Pulse (E : Type 0) : Type 0 where
  pub first : List E
  pub more : List (List E)
  pub closing : List E

module _ {E : Type 0} where
  -- "A pulse is then a row of high runs with no low run among them, as long as it can be, followed by a low run, which closes it.
  -- High runs that no low run follows are no pulse."
  unfoldable mutual
    pub between : List (Run E) → List (Pulse E)
    between [] = []
    between (run false es ∷ rs) = between rs
    between (run true es ∷ rs) = row es [] rs

    pub row : List E → List (List E) → List (Run E) → List (Pulse E)
    row f more [] = []
    row f more (run true es ∷ rs) = row f (more ++ (es ∷ [])) rs
    row f more (run false es ∷ rs) = record { first = f; more = more; closing = es } ∷ between rs

  -- the pulses of a record, where min_steps is m
  unfoldable pub pulses : ℕ → List (Sample E) → List (Pulse E)
  pulses m xs = between (counted m (runs xs))

  unfoldable pub nth : ℕ → List E → Option E
  nth n [] = none
  nth zero (e ∷ es) = some e
  nth (suc n) (e ∷ es) = nth n es

  -- The edge of a run that counts: the one held at its sample number m, with which it begins to count. A shorter run has none.
  unfoldable pub run_edge : ℕ → List E → Option E
  run_edge m es = nth (m - 1) es

  unfoldable pub pair : Option E → Option E → Option (List E) → Option (List E)
  pair (some a) (some b) (some es) = some (a ∷ b ∷ es)
  pair (some a) (some b) none = none
  pair (some a) none r = none
  pair none b r = none

  -- the edges of pulses in order, of each that of its first run and that of its closing run; none where a run has none
  unfoldable pub edges : ℕ → List (Pulse E) → Option (List E)
  edges m [] = some []
  edges m (q ∷ qs) = pair (run_edge m q.first) (run_edge m q.closing) (edges m qs)

  unfoldable pub across : (E → E → ℕ) → Option E → Option E → Option ℕ
  across width (some a) (some b) = some (width a b)
  across width (some a) none = none
  across width none b = none

  -- "each width the one between demand 2's edges of the pulse's first run and its closing run"
  unfoldable pub pulse_width : (E → E → ℕ) → ℕ → Pulse E → Option ℕ
  pulse_width width m q = across width (run_edge m q.first) (run_edge m q.closing)

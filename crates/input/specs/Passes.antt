-- What the passes of a program over a live input say: each feeds the bytes that were left and those that came, and together they are the blocks
-- of the stream that was read (crates/stream/specs/Blocks.antt), whose lines `program_prints` (crates/stream/proofs/Printed.antt) equates
-- with those of the whole.
use Rattle.std.specs.Prelude.{ℕ, ◌≤◌, Bool, true, false, ◌≡◌, List, [], ◌++◌, length, take, Option}
use Rattle.std.specs.Io.KnownBytes.{Consumes, Appends, IsAtEnd}
use Rattle.stream.specs.declared.Fed.{Fed}
use Rattle.stream.specs.Machine.{Machine}
use Rattle.stream.specs.Blocks.{is_full, Blocks, Over}
use Rattle.stream.specs.Feeds.{Feeds}
use Rattle.input.specs.Known.{Took, Gave}

-- a pass leads from p to q. It feeds the bytes that were left at the front of the buffer b, and after them those that came: none once the input
-- has ended (`last`), nor where bytes that are there may still be answered. It leaves the buffer x and the text y
pub record Passes (M : Machine) (p : M.State) (f : Fed) (last : Bool) (b : List ℕ) (q : M.State) (g : Fed) (end : Bool) (x y : List ℕ) : Type 0 where
  pub came : List ℕ
  pub none_after : last ≡ true → came ≡ []
  pub ended_stays : last ≡ true → end ≡ true
  pub none_while : is_full f.stop ≡ true → came ≡ []
  pub feeds : Feeds M p (take f.left b ++ came) end g q x y

-- before a pass: of some bytes that were read the blocks printed some lines, and left the state q and the bytes at the front of b
pub record Standing (M : Machine) (p q : M.State) (f : Fed) (last : Bool) (b : List ℕ) : Type 0 where
  pub inside : f.left ≤ length b
  pub read : List ℕ
  pub printed : List ℕ
  pub blocks : Blocks M p last false read printed q (take f.left b)

-- after the last one: the same, and where nothing failed the stream is over
pub record Runs (M : Machine) (p q : M.State) (whole : Bool) : Type 0 where
  pub last : Bool
  pub ended : Bool
  pub read : List ℕ
  pub printed : List ℕ
  pub left : List ℕ
  pub blocks : Blocks M p last ended read printed q left
  pub over : whole ≡ true → Over last ended left

-- ---- the same where the bytes of the reader and those of the writer are known: r and w before, s and v after

-- a pass takes the bytes that came, and gives the lines, all of them where no write failed (`whole`)
pub record Carries (M : Machine) (p : M.State) (f : Fed) (last : Bool) (b : List ℕ) (q : M.State) (g : Fed) (end : Bool) (x y : List ℕ) (r s w v : Option (List ℕ)) (whole : Bool) : Type 0 where
  pub pass : Passes M p f last b q g end x y
  pub took : Took r s last pass.came end
  pub gave : Gave w v (take g.at y) whole

-- a pass fails at its read, and then nothing is taken, fed or given, or at its write, and then it gives the front of its lines
pub data Fails (M : Machine) (p : M.State) (f : Fed) (last : Bool) (b : List ℕ) (q : M.State) (r s w v : Option (List ℕ)) : Type 0 where
  at_read : q ≡ p → Took r s last [] last → v ≡ w → Fails M p f last b q r s w v
  at_write : {g : Fed} {end : Bool} {x y : List ℕ} → Carries M p f last b q g end x y r s w v false → Fails M p f last b q r s w v

-- before a pass: what was read is taken, and what was printed is given
pub record Carried (M : Machine) (p q : M.State) (f : Fed) (last : Bool) (b : List ℕ) (r s w v : Option (List ℕ)) : Type 0 where
  pub standing : Standing M p q f last b
  pub taken : Consumes r s standing.read
  pub over : last ≡ true → IsAtEnd s
  pub given : Appends w v standing.printed

-- Who holds a segment: nobody, one thread that may write it, or some threads that only read it.
use Rattle.std.specs.Prelude.{◌≡◌, ℕ, Bool, true, false, not, ◌&&◌, ◌||◌, ◌==◌, Option, Some, None, slice_index_or}
use Rattle.lc_tx.specs.declared.holders.Holders.{Holders}
use Rattle.lc_tx.specs.declared.holders.Holders.TheVariants.{Free, Writer, Readers}

-- the thread that holds it for writing
abbrev pub writer_of : Holders → Option ℕ
writer_of (Writer thread) = Some thread
writer_of _ = None

-- the thread holds it for reading
abbrev pub reads : Holders → ℕ → Bool
reads (Readers readers) thread = slice_index_or readers.reads thread false
reads _ thread = false

abbrev pub is_free : Holders → Bool
is_free Free = true
is_free _ = false

-- the thread reads it too, beside those that read it before, and nobody writes it
pub record Joins (thread : ℕ) (old new : Holders) : Type 0 where
  pub no_writer : writer_of new ≡ None
  pub readers_are : (other : ℕ) → reads new other ≡ ((thread == other) || reads old other)

-- the thread holds it no more, and those who read it beside the thread still do
pub record Leaves (thread : ℕ) (old new : Holders) : Type 0 where
  pub no_writer : writer_of new ≡ None
  pub readers_are : (other : ℕ) → reads new other ≡ (not (thread == other) && reads old other)

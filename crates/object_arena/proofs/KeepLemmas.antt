-- What calls keep, one after another.
use Rattle.std.proofs.Common.{◌≡◌, refl, ◌∙◌}
use Rattle.class_mapping.specs.Mapped.{Mapped}
use Rattle.object_arena.specs.Graph.{Graph}
use Rattle.object_arena.specs.Fit.{Keeps, KeepsWith}

-- no call
pub keeps_same : (graph : Graph) → Keeps graph graph
keeps_same graph = record { fits = λ mapped fit. fit; classes = refl }

pub keeps_then : (old mid new : Graph) → Keeps old mid → Keeps mid new → Keeps old new
keeps_then old mid new first second = record {
  fits = λ mapped fit. second.fits mapped (first.fits mapped fit);
  classes = second.classes ∙ first.classes;
}

-- a call that puts something in
pub keeps_with : (Fits : Mapped → Type 0) (old new : Graph) → Keeps old new → KeepsWith Fits old new
keeps_with Fits old new keeps = record { fits = λ mapped good fit. keeps.fits mapped fit; classes = keeps.classes }

-- where it fits
pub keeps_where : (old new : Graph) (Fits : Mapped → Type 0) → ((mapped : Mapped) → Fits mapped) → KeepsWith Fits old new → Keeps old new
keeps_where old new Fits good keeps = record { fits = λ mapped fit. keeps.fits mapped (good mapped) fit; classes = keeps.classes }

pub with_then : (Fits : Mapped → Type 0) (old mid new : Graph) → KeepsWith Fits old mid → Keeps mid new → KeepsWith Fits old new
with_then Fits old mid new first second = record {
  fits = λ mapped good fit. second.fits mapped (first.fits mapped good fit);
  classes = second.classes ∙ first.classes;
}

pub then_with : (Fits : Mapped → Type 0) (old mid new : Graph) → Keeps old mid → KeepsWith Fits mid new → KeepsWith Fits old new
then_with Fits old mid new first second = record {
  fits = λ mapped good fit. second.fits mapped good (first.fits mapped fit);
  classes = second.classes ∙ first.classes;
}

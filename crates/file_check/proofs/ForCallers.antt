-- What crates above may cite: the first file that isn't exact is one, and so is what is wrong with it.
pub use Rattle.file_check.proofs.Answering.{files_before, first_before}
pub use Rattle.file_check.proofs.Classes.{Class, Missing, Judged, IsJudged, IsClass, class_of, same_class, fault_class}
pub use Rattle.file_check.proofs.Classes.{exact_class, AllClasses, IsFirstAt, no_first, one_first, file_of_place}
pub use Rattle.file_check.proofs.Classes.{all_classes, RefusedFile, refused_file, fault_first, MissingFile}
pub use Rattle.file_check.proofs.Classes.{missing_file, missing_first}

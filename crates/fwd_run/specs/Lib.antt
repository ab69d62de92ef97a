-- To be believed: what happens in a run, in one history, and what each part of the relay is after
-- it (Runs); that a request entered an output (Entered); what whoever has a part's page knows of it
-- (Pages); and which event a step stands for (Steps).
pub mod Runs
pub mod Entered
pub mod Pages
pub mod Steps

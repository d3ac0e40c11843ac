pub mod MountOptions

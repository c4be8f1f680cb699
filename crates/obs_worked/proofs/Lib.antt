mod Assigned
mod Computed
